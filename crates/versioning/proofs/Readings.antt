-- A read answers the serial row, and goes on doing so.
use Rattle.std.proofs.Common.{◌≡◌, ℕ, zero, suc, ◌<◌, ◌≤◌, Bool, true, false, cond, not, ◌&&◌, ◌||◌, eqb, List, [], ◌∷◌, ◌++◌, length, get_or, take, drop, MatchBool, sym, refl, ap, ◌∙◌, subst, ap₂, inl, inr, arith}
use mathlib.Core.Bool.{false≢true}
use Rattle.std.proofs.lemmas.List.{take_all, take-append-le, length_push}
use Rattle.std.proofs.lemmas.Bool.{eqb-true, eq-eqb, ne_eqb, or_parts, or_cases, or_from, or_left, or_right}
use Rattle.catalogue.specs.declared.row.Row.{Row}
use Rattle.sequencing.specs.declared.mode.Mode.{Mode}
use Rattle.sequencing.specs.declared.sequencer.Assigned.{Assigned}
use Rattle.sequencing.specs.Sequencer.{assigned}
use Rattle.versioning.specs.declared.operation.Operation.{Operation}
use Rattle.sequencing.specs.Modes.{some, declares}
use Rattle.versioning.specs.Words.{writes, is_release, is_end, is_write_at, released, ended, lets_go, Course, mode, done, has_let_go, waiting, ask, advance}
use Rattle.versioning.specs.Machine.{Transaction, State, version, found, admits}
use Rattle.versioning.specs.Ledger.{Reading, from}
use Rattle.versioning.specs.Serial.{serial, Finds}
use Rattle.versioning.proofs.Tests.{and_not}
use Rattle.versioning.proofs.Marks.{Mark, let_go, blocks, writer_left, some_writer}
use Rattle.versioning.proofs.Ops.{lets_go_push, some_take, Allowed, sound_take, quiet, put, puts, leaves, puts_other, leaves_same}
use Rattle.versioning.proofs.Valid.{marks, Fine, Valid, blocks_cons, valid_behind, admits_right}
use Rattle.versioning.proofs.Cells.{standing, by, all_of, standing_amended, quiet_since, settled_rows, all_in_range, written_cell, serial_cell, length_serial}
use Rattle.versioning.proofs.Executed.{not_aborted}
use Rattle.versioning.proofs.Represents.{after_it, nx, nx_marks, get_or_tables, opened, Same, Represents, length_amended}

-- every writer of the table has asked to let go of it
abbrev pub Settled : ℕ → List Course → Type 0
Settled t [] = Unit {0}
Settled t (c ∷ cs) = (writes (mode c t) ≡ true → lets_go t c.asked ≡ true) × Settled t cs

-- what a read gave agrees with the row that it finds
module _ (o : List Row) (n : ℕ) {G : Type 0} (agrees : G → Row → Type 0) where
  pub record Stood (rd : Reading G) (c : Course) (earlier : List Course) : Type 0 where
    pub table : rd.table < 8
    pub row : rd.row < 64
    pub behind : rd.behind ≤ length c.asked
    pub right : agrees rd.gave (puts rd.table rd.row (take rd.behind c.asked) (standing all_of rd.table rd.row (opened o n rd.table rd.row) earlier))
    pub settled : Settled rd.table earlier

  abbrev pub Good : List Course → Reading G → Type 0
  Good [] rd = ⊥
  Good (c ∷ earlier) rd = MatchBool (eqb (length earlier) rd.number) (Stood rd c earlier) (Good earlier rd)

  pub good_right : length o ≡ 512 → (rd : Reading G) (cs : List Course) → Valid cs → Good cs rd → Finds agrees o rd (from rd.number cs)
  good_right l rd [] v g = g
  good_right l rd (c ∷ cs) v g = go (good_right l rd cs v.1) (eqb (length cs) rd.number) g
    where
      go : (Good cs rd → Finds agrees o rd (from rd.number cs)) → (b : Bool) → MatchBool b (Stood rd c cs) (Good cs rd) → Finds agrees o rd (cond b (c ∷ cs) (from rd.number cs))
      go ih true g =
          subst (agrees rd.gave) (sym (written_cell rd.table rd.row g.table g.row (take rd.behind c.asked) (serial o cs) (length_serial o cs ∙ l) (all_in_range (mode c) (take rd.behind c.asked) (sound_take (mode c) c.asked rd.behind g.behind v.0.sound)) ∙ ap (puts rd.table rd.row (take rd.behind c.asked)) (serial_cell rd.table rd.row g.table g.row o l cs v.1))) g.right
      go ih false g = ih g

  good_below : (rd : Reading G) (cs : List Course) → Good cs rd → rd.number < length cs
  good_below rd [] g = absurd g
  good_below rd (c ∷ cs) g = go (good_below rd cs) (eqb (length cs) rd.number) refl g
    where
      go : (Good cs rd → rd.number < length cs) → (b : Bool) → eqb (length cs) rd.number ≡ b → MatchBool b (Stood rd c cs) (Good cs rd) → rd.number < suc (length cs)
      go ih true e g = omega (arith, eqb-true (length cs) rd.number e)
      go ih false e g = omega (arith, ih g)

  pub good_begun : (c : Course) (cs : List Course) (rd : Reading G) → Good cs rd → Good (c ∷ cs) rd
  good_begun c cs rd g = subst (λ b. MatchBool b (Stood rd c cs) (Good cs rd)) (sym (ne_eqb (length cs) rd.number (λ q. omega (arith, good_below rd cs g)))) g

  pub good_at : (rd : Reading G) (ns : List Course) (e : Course) (earlier : List Course) → rd.number ≡ length earlier → Stood rd e earlier → Good (ns ++ (e ∷ earlier)) rd
  good_at rd [] e earlier h g = subst (λ b. MatchBool b (Stood rd e earlier) (Good earlier rd)) (sym (eq-eqb (length earlier) rd.number (sym h))) g
  good_at rd (m ∷ ns) e earlier h g =
      subst (λ b. MatchBool b (Stood rd m (ns ++ (e ∷ earlier))) (Good (ns ++ (e ∷ earlier)) rd)) (sym (ap (eqb (length (ns ++ (e ∷ earlier)))) h ∙ after_it ns e earlier)) (good_at rd ns e earlier h g)

  -- one transaction changed
  module _ (e e' : Course) (earlier : List Course) (same : (t : ℕ) → mode e' t ≡ mode e t)
      (longer : length e.asked ≤ length e'.asked)
      (front : (i : ℕ) → i ≤ length e.asked → take i e'.asked ≡ take i e.asked)
      (kept : (t : ℕ) → lets_go t e.asked ≡ true → lets_go t e'.asked ≡ true)
      (same_left : (t r : ℕ) (y : Row) → (writes (mode e t) ≡ true → lets_go t e.asked ≡ true) → leaves t r e'.asked y ≡ leaves t r e.asked y) where
    settled_at : (t : ℕ) (ns : List Course) → Settled t (ns ++ (e ∷ earlier)) → writes (mode e t) ≡ true → lets_go t e.asked ≡ true
    settled_at t [] h = h.0
    settled_at t (m ∷ ns) h = settled_at t ns h.1

    settled_amended : (t : ℕ) (ns : List Course) → Settled t (ns ++ (e ∷ earlier)) → Settled t (ns ++ (e' ∷ earlier))
    settled_amended t [] h = (λ w. kept t (h.0 (ap writes (sym (same t)) ∙ w)), h.1)
    settled_amended t (m ∷ ns) h = (h.0, settled_amended t ns h.1)

    pub good_amended : (rd : Reading G) (ns : List Course) → Good (ns ++ (e ∷ earlier)) rd → Good (ns ++ (e' ∷ earlier)) rd
    good_amended rd [] g = go (eqb (length earlier) rd.number) g
      where
        go : (b : Bool) → MatchBool b (Stood rd e earlier) (Good earlier rd) → MatchBool b (Stood rd e' earlier) (Good earlier rd)
        go true g =
            record {
              table = g.table;
              row = g.row;
              behind = omega (arith, g.behind);
              right = subst (λ ops. agrees rd.gave (puts rd.table rd.row ops (standing all_of rd.table rd.row (opened o n rd.table rd.row) earlier))) (sym (front rd.behind g.behind)) g.right;
              settled = g.settled;
            }
        go false g = g
    good_amended rd (m ∷ ns) g =
        subst (λ i. MatchBool (eqb i rd.number) (Stood rd m (ns ++ (e' ∷ earlier))) (Good (ns ++ (e' ∷ earlier)) rd)) (sym (length_amended o n e e' earlier ns)) (go (good_amended rd ns) (eqb (length (ns ++ (e ∷ earlier))) rd.number) g)
      where
        go : (Good (ns ++ (e ∷ earlier)) rd → Good (ns ++ (e' ∷ earlier)) rd) → (b : Bool) → MatchBool b (Stood rd m (ns ++ (e ∷ earlier))) (Good (ns ++ (e ∷ earlier)) rd) → MatchBool b (Stood rd m (ns ++ (e' ∷ earlier))) (Good (ns ++ (e' ∷ earlier)) rd)
        go ih true g =
            let t = rd.table in
            let r = rd.row in
            record {
              table = g.table;
              row = g.row;
              behind = g.behind;
              right = subst (λ x. agrees rd.gave (puts t r (take rd.behind m.asked) x)) (sym (standing_amended all_of t r (opened o n t r) e e' earlier ns (same_left t r (standing all_of t r (opened o n t r) earlier) (settled_at t ns g.settled)))) g.right;
              settled = settled_amended t ns g.settled;
            }
        go ih false g = ih g

  pub good_ask : (op : Operation) (e : Course) (earlier ns : List Course) (rd : Reading G) → Fine e earlier → Allowed (mode e) e.asked op → Good (ns ++ (e ∷ earlier)) rd → Good (ns ++ (ask op e ∷ earlier)) rd
  good_ask op e earlier ns rd f a =
      good_amended e (ask op e) earlier (λ t. refl) (omega (arith, length_push e.asked op)) (λ i h. take-append-le i e.asked (op ∷ []) h) (λ t h. lets_go_push t e.asked op ∙ or_left (lets_go t e.asked) (is_release t op || is_end op) h) (λ t r y h. leaves_same (mode e) t r e.asked op y f.sound a h) rd ns

  pub good_run : (j : ℕ) (e : Course) (earlier ns : List Course) (rd : Reading G) → Good (ns ++ (e ∷ earlier)) rd → Good (ns ++ (advance j e ∷ earlier)) rd
  good_run j e earlier ns rd = good_amended e (advance j e) earlier (λ t. refl) (omega arith) (λ i h. refl) (λ t h. h) (λ t r y h. refl) rd ns

-- the writes at the table that are not yet executed are none
puts_split : (t r d : ℕ) (ops : List Operation) (x : Row) → puts t r ops x ≡ puts t r (drop d ops) (puts t r (take d ops) x)
puts_split t r zero ops x = refl
puts_split t r (suc d) [] x = refl
puts_split t r (suc d) (op ∷ ops) x = puts_split t r d ops (put t r x op)

settled_from : (j t : ℕ) (cs : List Course) → writer_left (marks j t cs) ≡ false → Settled t cs
settled_from j t [] h = tt
settled_from j t (c ∷ cs) h =
    let p = or_parts (writes (mode c t) && not (has_let_go c j t)) (writer_left (marks j t cs)) (sym (blocks_cons Mode.Read (mode c t) (has_let_go c j t) (marks j t cs)) ∙ h) in
    (λ w. whole (and_not (writes (mode c t)) (has_let_go c j t) p.0 w), settled_from j t cs p.1)
  where
    whole : lets_go t (done c j) ≡ true → lets_go t c.asked ≡ true
    whole h =
        elim (or_cases (released t (done c j)) (ended (done c j)) h) [
          | inl e ↦ or_left (released t c.asked) (ended c.asked) (some_take (is_release t) (c.executed j) c.asked e)
          | inr e ↦ or_right (released t c.asked) (ended c.asked) (some_take is_end (c.executed j) c.asked e)
        ]

none_taken : (p : Operation → Bool) (d : ℕ) (ops : List Operation) → some p ops ≡ false → some p (take d ops) ≡ false
none_taken p d ops h = go (some p (take d ops)) refl
  where
    go : (b : Bool) → some p (take d ops) ≡ b → b ≡ false
    go true e = sym (some_take p d ops e) ∙ h
    go false e = refl

free_of_writers : (m : Mode) (ms : List Mark) → declares m ≡ true → blocks m ms ≡ false → writer_left ms ≡ false
free_of_writers Mode.None ms d h = absurd (false≢true d)
free_of_writers Mode.Read ms d h = h
free_of_writers Mode.Write ms d h = go (writer_left ms) refl
  where
    go : (b : Bool) → writer_left ms ≡ b → b ≡ false
    go true e = sym (some_writer ms e) ∙ h
    go false e = refl

some_drop : {A : Type 0} (p : A → Bool) (n : ℕ) (xs : List A) → some p xs ≡ false → some p (drop n xs) ≡ false
some_drop p zero xs h = h
some_drop p (suc n) [] h = h
some_drop p (suc n) (x ∷ xs) h = some_drop p n xs (or_parts (p x) (some p xs) h).1

-- no write to the table waits: a reader asks none, and for a writer it is looked at
no_write_waits : (e : Course) (earlier : List Course) (j t : ℕ) → Fine e earlier → (writes (mode e t) && some (is_write_at t) (waiting e j)) ≡ false → some (is_write_at t) (waiting e j) ≡ false
no_write_waits e earlier j t f h = go (writes (mode e t)) refl h
  where
    go : (b : Bool) → writes (mode e t) ≡ b → (b && some (is_write_at t) (waiting e j)) ≡ false → some (is_write_at t) (waiting e j) ≡ false
    go true w h = h
    go false w h = some_drop (is_write_at t) (e.executed j) e.asked (quiet (mode e) e.asked t f.sound w)

module _ (o : List Row) (n : ℕ) {G : Type 0} (agrees : G → Row → Type 0) (ns : List Course) (e : Course) (earlier : List Course) (s : State) (p : Represents o n (ns ++ (e ∷ earlier)) s) where
  pub stands : (x : Transaction) → Same o n x e earlier → (j t r : ℕ) → j < n → t < 8 → r < 64 → ended e.asked ≡ false → released t e.asked ≡ false → declares (mode e t) ≡ true → admits (get_or x.assigned t Assigned.None) (version s j t) ≡ true → (writes (mode e t) && some (is_write_at t) (waiting e j)) ≡ false →
      (g : G) → agrees g (found s j t r) → Stood o n agrees (record { number = length earlier; behind = length e.asked; table = t; row = r; gave = g }) e earlier
  stands x k j t r hj ht hr en re d ad none g a =
      record {
        table = ht;
        row = hr;
        behind = omega arith;
        right = subst (agrees g) (sym (ap (λ ops. puts t r ops above) (take_all (length e.asked) e.asked (omega arith)) ∙ puts_split t r (e.executed j) e.asked above ∙ puts_other t r (drop (e.executed j) e.asked) (puts t r (done e j) above) (no_write_waits e earlier j t v.0 none) ∙ ap (puts t r (done e j)) (sym (settled_rows j t r (opened o n t r) earlier v.1 none_left)) ∙ sym (p.rows j t r hj ht hr ∙ quiet_since j t r (opened o n t r) e e earlier ns p.valid d not_gone ∙ ap (λ b. cond b here (puts t r (done e j) here)) (not_aborted (done e j) (none_taken is_end (e.executed j) e.asked en))))) a;
        settled = settled_from j t earlier none_left;
      }
    where
      v : Valid (e ∷ earlier)
      v = valid_behind ns (e ∷ earlier) p.valid

      above : Row
      above = standing all_of t r (opened o n t r) earlier

      here : Row
      here = standing (by j) t r (opened o n t r) earlier

      not_gone : has_let_go e j t ≡ false
      not_gone = or_from (released t (done e j)) (ended (done e j)) (none_taken (is_release t) (e.executed j) e.asked re) (none_taken is_end (e.executed j) e.asked en)

      unblocked : (b : Bool) → true ≡ not b → b ≡ false
      unblocked true h = h
      unblocked false h = refl

      none_left : writer_left (marks j t earlier) ≡ false
      none_left =
          free_of_writers (mode e t) (marks j t earlier) d (unblocked (blocks (mode e t) (marks j t earlier)) (
          sym ad
          ∙ ap₂ admits (ap (λ v. get_or v t Assigned.None) k.assigned ∙ get_or_tables (λ u. assigned (mode e u) (nx u earlier)) t Assigned.None ht ∙ ap (assigned (mode e t)) (nx_marks j t earlier)) (ap (λ v. get_or v t 0) (p.version j hj) ∙ get_or_tables (λ u. let_go (marks j u (ns ++ (e ∷ earlier)))) t 0 ht)
          ∙ admits_right j t ns e earlier p.valid not_gone
          ))
