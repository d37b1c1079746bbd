-- One row of the catalogue through the transactions: serially, and as executed at a replica.
use Rattle.std.proofs.Common.{◌≡◌, ℕ, ◌+◌, ◌-◌, ◌*◌, ◌/◌, ◌%◌, ◌<◌, ◌≤◌, Bool, true, false, cond, not, ◌&&◌, ◌||◌, eqb, List, [], ◌∷◌, ◌++◌, length, get_or, take, set, sym, refl, ap, ◌∙◌, subst, inl, inr, arith, length-set}
use mathlib.Core.Bool.{false≢true}
use Rattle.std.specs.List.{AllByRecursion}
use Rattle.std.proofs.lemmas.List.{take_all, get_or-set_same, get_or-set_other, ext_get_or}
use Rattle.std.proofs.ByRecursion.{All-from_get_or}
use Rattle.std.proofs.lemmas.Bool.{eqb-true, eqb-false, ltb-false, cases_Bool, or_parts, or_right}
use Rattle.catalogue.specs.declared.row.Row.{Row}
use Rattle.sequencing.specs.declared.mode.Mode.{Mode}
use Rattle.versioning.specs.declared.operation.Operation.{Operation}
use Rattle.catalogue.specs.Rows.{blank, place}
use Rattle.sequencing.specs.Modes.{some, declares}
use Rattle.versioning.specs.Words.{writes, is_write_at, aborted, Course, mode, done, has_let_go, waits}
use Rattle.versioning.specs.Serial.{written, serial, NothingWaits}
use Rattle.versioning.proofs.Tests.{and_not}
use Rattle.versioning.proofs.Marks.{writer_left, any_left, blocks}
use Rattle.versioning.proofs.Ops.{Allowed, Sound, sound_take, quiet, puts, leaves, leaves_other, leaves_all}
use Rattle.versioning.proofs.Valid.{marks, Fine, Valid, wrote_reached, blocks_cons}

abbrev pub standing : (Course → List Operation) → ℕ → ℕ → Row → List Course → Row
standing pick t r x [] = x
standing pick t r x (c ∷ cs) = leaves t r (pick c) (standing pick t r x cs)

abbrev pub all_of : Course → List Operation
all_of c = c.asked

abbrev pub by : ℕ → Course → List Operation
by j c = done c j

-- the catalogue's rows are such rows
pub set_cell : (rows : List Row) (t r u q : ℕ) (v : Row) → length rows ≡ 512 → t < 8 → r < 64 → u < 8 → q < 64 → get_or (set rows (place u q) v) (place t r) blank ≡ cond (eqb t u && eqb r q) v (get_or rows (place t r) blank)
set_cell rows t r u q v l ht hr hu hq = go (eqb t u) (eqb r q) refl refl
  where
    go : (a b : Bool) → eqb t u ≡ a → eqb r q ≡ b → get_or (set rows (place u q) v) (place t r) blank ≡ cond (a && b) v (get_or rows (place t r) blank)
    go true true e f =
        let same : t * 64 + r ≡ u * 64 + q = omega (arith, eqb-true t u e, eqb-true r q f) in
        ap (λ p. get_or (set rows (place u q) v) p blank) same ∙ get_or-set_same rows (place u q) v blank (omega arith)
    go true false e f = get_or-set_other rows (place u q) (place t r) v blank (λ s. eqb-false r q f (omega (arith, eqb-true t u e)))
    go false b e f = get_or-set_other rows (place u q) (place t r) v blank (λ s. eqb-false t u e (omega arith))

abbrev pub InRange : Operation → Type 0
InRange (Operation.Write t r v c) = (t < 8) × (r < 64)
InRange (Operation.Release t) = Unit {0}
InRange Operation.Commit = Unit {0}
InRange Operation.Abort = Unit {0}

in_range : (m : ℕ → Mode) (before : List Operation) (op : Operation) → Allowed m before op → InRange op
in_range m before (Operation.Write t r v c) a = (a.2, a.3)
in_range m before (Operation.Release t) a = tt
in_range m before Operation.Commit a = tt
in_range m before Operation.Abort a = tt

pub all_in_range : (m : ℕ → Mode) (ops : List Operation) → Sound m ops → AllByRecursion InRange ops
all_in_range m ops s = All-from_get_or InRange ops Operation.Commit (λ i h. in_range m (take i ops) (get_or ops i Operation.Commit) (s i h))

pub length_written : (ops : List Operation) (rows : List Row) → length (written ops rows) ≡ length rows
length_written [] rows = refl
length_written (Operation.Write t r v c ∷ ops) rows = length_written ops (set rows (place t r) v) ∙ length-set rows (place t r) v
length_written (Operation.Release t ∷ ops) rows = length_written ops rows
length_written (Operation.Commit ∷ ops) rows = length_written ops rows
length_written (Operation.Abort ∷ ops) rows = length_written ops rows

module _ (t r : ℕ) (ht : t < 8) (hr : r < 64) where
  pub written_cell : (ops : List Operation) (rows : List Row) → length rows ≡ 512 → AllByRecursion InRange ops → get_or (written ops rows) (place t r) blank ≡ puts t r ops (get_or rows (place t r) blank)
  written_cell [] rows l a = refl
  written_cell (Operation.Write u q v c ∷ ops) rows l a =
      written_cell ops (set rows (place u q) v) (length-set rows (place u q) v ∙ l) a.1 ∙ ap (puts t r ops) (set_cell rows t r u q v l ht hr a.0.0 a.0.1)
  written_cell (Operation.Release u ∷ ops) rows l a = written_cell ops rows l a.1
  written_cell (Operation.Commit ∷ ops) rows l a = written_cell ops rows l a.1
  written_cell (Operation.Abort ∷ ops) rows l a = written_cell ops rows l a.1

pub length_serial : (o : List Row) (cs : List Course) → length (serial o cs) ≡ length o
length_serial o [] = refl
length_serial o (c ∷ cs) = go (aborted c.asked) (length_serial o cs)
  where
    go : (b : Bool) → length (serial o cs) ≡ length o → length (cond b (serial o cs) (written c.asked (serial o cs))) ≡ length o
    go true h = h
    go false h = length_written c.asked (serial o cs) ∙ h

pub serial_cell : (t r : ℕ) → t < 8 → r < 64 → (o : List Row) → length o ≡ 512 → (cs : List Course) → Valid cs → get_or (serial o cs) (place t r) blank ≡ standing all_of t r (get_or o (place t r) blank) cs
serial_cell t r ht hr o l [] v = refl
serial_cell t r ht hr o l (c ∷ cs) v = go (aborted c.asked) (serial_cell t r ht hr o l cs v.1)
  where
    go : (b : Bool) → get_or (serial o cs) (place t r) blank ≡ standing all_of t r (get_or o (place t r) blank) cs → get_or (cond b (serial o cs) (written c.asked (serial o cs))) (place t r) blank ≡ cond b (standing all_of t r (get_or o (place t r) blank) cs) (puts t r c.asked (standing all_of t r (get_or o (place t r) blank) cs))
    go true h = h
    go false h = written_cell t r ht hr c.asked (serial o cs) (length_serial o cs ∙ l) (all_in_range (mode c) c.asked v.0.sound) ∙ ap (puts t r c.asked) h

-- where every operation is executed, the executed rows are the serial ones
pub caught_up : (j t r : ℕ) (x : Row) (cs : List Course) → NothingWaits j cs → standing (by j) t r x cs ≡ standing all_of t r x cs
caught_up j t r x [] h = refl
caught_up j t r x (c ∷ cs) h =
    let p = or_parts (waits c j) (some (λ e. waits e j) cs) h in
    ap (λ ops. leaves t r ops (standing (by j) t r x cs)) (take_all (c.executed j) c.asked (ltb-false (c.executed j) (length c.asked) p.0)) ∙ ap (leaves t r c.asked) (caught_up j t r x cs p.1)

-- two catalogues are the same if their rows are
pub same_rows : (a b : List Row) → length a ≡ 512 → length b ≡ 512 → ((t r : ℕ) → t < 8 → r < 64 → get_or a (place t r) blank ≡ get_or b (place t r) blank) → a ≡ b
same_rows a b la lb f =
    ext_get_or blank a b (la ∙ sym lb) (λ p h. let e : p / 64 * 64 + p % 64 ≡ p = omega arith in subst (λ q. get_or a q blank ≡ get_or b q blank) e (f (p / 64) (p % 64) (omega arith) (omega arith)))

-- one transaction changed
pub standing_amended : (pick : Course → List Operation) (t r : ℕ) (x : Row) (e e' : Course) (earlier ns : List Course) → leaves t r (pick e') (standing pick t r x earlier) ≡ leaves t r (pick e) (standing pick t r x earlier) → standing pick t r x (ns ++ (e' ∷ earlier)) ≡ standing pick t r x (ns ++ (e ∷ earlier))
standing_amended pick t r x e e' earlier [] h = h
standing_amended pick t r x e e' earlier (n ∷ ns) h = ap (leaves t r (pick n)) (standing_amended pick t r x e e' earlier ns h)

-- a table that e declares, and has not let go of, no later transaction has written
pub left_behind : (j t : ℕ) (e : Course) (earlier ns : List Course) → declares (mode e t) ≡ true → has_let_go e j t ≡ false → any_left (marks j t (ns ++ (e ∷ earlier))) ≡ true
left_behind j t e earlier [] d g =
    blocks_cons Mode.Write (mode e t) (has_let_go e j t) (marks j t earlier) ∙ ap (λ b. (b && not (has_let_go e j t)) || any_left (marks j t earlier)) d ∙ ap (λ b. not b || any_left (marks j t earlier)) g
left_behind j t e earlier (n ∷ ns) d g =
    blocks_cons Mode.Write (mode n t) (has_let_go n j t) (marks j t (ns ++ (e ∷ earlier))) ∙ or_right (declares (mode n t) && not (has_let_go n j t)) (any_left (marks j t (ns ++ (e ∷ earlier)))) (left_behind j t e earlier ns d g)

pub writes_is : (m : Mode) → writes m ≡ true → m ≡ Mode.Write
writes_is Mode.None h = absurd (false≢true h)
writes_is Mode.Read h = absurd (false≢true h)
writes_is Mode.Write h = refl

pub unwritten : (c : Course) (earlier : List Course) (j t : ℕ) → Fine c earlier → any_left (marks j t earlier) ≡ true → some (is_write_at t) (done c j) ≡ false
unwritten c earlier j t f l = go (some (is_write_at t) (done c j)) refl
  where
    go : (b : Bool) → some (is_write_at t) (done c j) ≡ b → b ≡ false
    go false e = refl
    go true e = elim (cases_Bool (writes (mode c t))) [
      | inl w ↦ sym l ∙ ap (λ m. blocks m (marks j t earlier)) (sym (writes_is (mode c t) w)) ∙ f.cleared j t (wrote_reached t (done c j) e)
      | inr w ↦ sym e ∙ quiet (mode c) (done c j) t (sound_take (mode c) c.asked (c.executed j) (f.within j) f.sound) w
    ]

-- f stands where e stood
pub quiet_since : (j t r : ℕ) (x : Row) (e f : Course) (earlier ns : List Course) → Valid (ns ++ (e ∷ earlier)) → declares (mode e t) ≡ true → has_let_go e j t ≡ false → standing (by j) t r x (ns ++ (f ∷ earlier)) ≡ standing (by j) t r x (f ∷ earlier)
quiet_since j t r x e f earlier [] v d g = refl
quiet_since j t r x e f earlier (n ∷ ns) v d g =
    leaves_other t r (done n j) (standing (by j) t r x (ns ++ (f ∷ earlier))) (unwritten n (ns ++ (e ∷ earlier)) j t v.0 (left_behind j t e earlier ns d g)) ∙ quiet_since j t r x e f earlier ns v.1 d g

-- where every writer has let go of the table at the replica, its rows there are the serial ones
pub settled_rows : (j t r : ℕ) (x : Row) (cs : List Course) → Valid cs → writer_left (marks j t cs) ≡ false → standing (by j) t r x cs ≡ standing all_of t r x cs
settled_rows j t r x [] v h = refl
settled_rows j t r x (c ∷ cs) v h =
    let p = or_parts (writes (mode c t) && not (has_let_go c j t)) (writer_left (marks j t cs)) (sym (blocks_cons Mode.Read (mode c t) (has_let_go c j t) (marks j t cs)) ∙ h) in
    let w : c.executed j ≤ length c.asked = v.0.within j in
    let n : ℕ = length c.asked - c.executed j in
    let y = standing (by j) t r x cs in
    let e : take (c.executed j + n) c.asked ≡ c.asked = take_all (c.executed j + n) c.asked (omega arith) in
    let q = (leaves_all (mode c) t r c.asked (c.executed j) n y v.0.sound (omega arith) (and_not (writes (mode c t)) (has_let_go c j t) p.0)).0 in
    sym q ∙ ap (λ ops. leaves t r ops y) e ∙ ap (leaves t r c.asked) (settled_rows j t r x cs v.1 p.1)
