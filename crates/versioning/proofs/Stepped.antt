-- A step: when it is held back, and what it leaves.
use Rattle.std.proofs.Common.{◌≡◌, ℕ, zero, suc, ◌<◌, Bool, true, false, cond, not, ◌&&◌, ◌||◌, eqb, ltb, ◌≢◌, List, [], ◌∷◌, ◌++◌, length, get_or, set, sym, refl, ap, ◌∙◌, subst, ap₂, inl, inr, true≢false, arith, length-set}
use mathlib.Core.Path.{fun_ext}
use mathlib.Core.Bool.{false≢true}
use Rattle.std.proofs.lemmas.List.{get_or-set_same, get_or-set_other}
use Rattle.std.proofs.lemmas.Bool.{eqb-true, eq-eqb, ne_eqb, eqb-false, or_parts, or_left, and_parts, ltb-true}
use Rattle.catalogue.specs.declared.row.Row.{Row}
use Rattle.sequencing.specs.declared.mode.Mode.{Mode}
use Rattle.sequencing.specs.declared.sequencer.Assigned.{Assigned}
use Rattle.sequencing.specs.Sequencer.{assigned}
use Rattle.versioning.specs.declared.operation.Operation.{Operation}
use Rattle.catalogue.specs.Rows.{blank, place}
use Rattle.sequencing.specs.Modes.{tables, declares}
use Rattle.versioning.specs.Words.{some_below, writes, is_release, is_end, released, ended, lets_go, Course, mode, done, has_let_go, waits, next, has_table, advance}
use Rattle.versioning.specs.Machine.{Transaction, Replica, State, replica, version, assigned_at, find, replace, remove, admits, held, undo, rows_after, replaced_after, version_after, all_executed, stepped_replica, stepped_transaction, stepping}
use Rattle.versioning.specs.Serial.{blocked, held_back}
use Rattle.versioning.proofs.Tests.{or_false, not_not}
use Rattle.versioning.proofs.Marks.{let_go, counters, blocks}
use Rattle.versioning.proofs.Ops.{some_push, lets_go_push, Allowed, sound_take, leaves, puts, leaves_same}
use Rattle.versioning.proofs.Valid.{marks, Fine, blocks_is, not_gone, next_allowed, done_run, done_other, fine_run, valid_amended, valid_behind, admits_right}
use Rattle.versioning.proofs.Cells.{standing, by, set_cell, standing_amended, quiet_since, left_behind, unwritten}
use Rattle.versioning.proofs.Executed.{declares_if, wrote_table, marks_other, version_run, is_write_cell, wrote, undone, not_aborted, puts_cell, cell_after, rows_run}
use Rattle.versioning.proofs.Represents.{nx, nx_marks, nx_amended, get_or_tables, opened, Same, Tied, Represents, known_amended, length_amended, tied}
use Rattle.versioning.proofs.Unfinished.{OldestFirst, oldest_first_replace, oldest_first_remove, find_replace_other, find_replace_same, find_remove_other, find_remove_same}

pub below_same : (p q : ℕ → Bool) (n : ℕ) → ((t : ℕ) → t < n → p t ≡ q t) → some_below n p ≡ some_below n q
below_same p q zero h = refl
below_same p q (suc n) h = ap₂ ◌||◌ (h n (omega arith)) (below_same p q n (λ t l. h t (omega arith)))

pub below_none : (p : ℕ → Bool) (n t : ℕ) → some_below n p ≡ false → t < n → p t ≡ false
below_none p zero t h l = absurd (not_lt l)
  where
    not_lt : t < 0 → ⊥
    not_lt l = omega arith
below_none p (suc n) t h l = go (eqb t n) refl (below_none p n t (or_parts (p n) (some_below n p) h).1)
  where
    go : (b : Bool) → eqb t n ≡ b → (t < n → p t ≡ false) → p t ≡ false
    go true e ih = ap p (eqb-true t n e) ∙ (or_parts (p n) (some_below n p) h).0
    go false e ih = ih (omega (arith, eqb-false t n e))

pub declared_below : (c : Course) (t : ℕ) → declares (mode c t) ≡ true → t < 8
declared_below c t h = go (ltb t 8) refl h
  where
    go : (b : Bool) → ltb t 8 ≡ b → declares (cond b (get_or c.declared t Mode.None) Mode.None) ≡ true → t < 8
    go true e h = ltb-true t 8 e
    go false e h = absurd (false≢true h)

-- the rows, by their places
undo_length : (repl : List (ℕ × Row)) (rows : List Row) → length (undo repl rows) ≡ length rows
undo_length [] rows = refl
undo_length (x ∷ xs) rows = undo_length xs (set rows x.0 x.1) ∙ length-set rows x.0 x.1

set_at : (rows : List Row) (p q : ℕ) (v : Row) → p < length rows → get_or (set rows q v) p blank ≡ cond (eqb p q) v (get_or rows p blank)
set_at rows p q v h = go (eqb p q) refl
  where
    go : (b : Bool) → eqb p q ≡ b → get_or (set rows q v) p blank ≡ cond b v (get_or rows p blank)
    go true e = ap (λ i. get_or (set rows i v) p blank) (sym (eqb-true p q e)) ∙ get_or-set_same rows p v blank h
    go false e = get_or-set_other rows q p v blank (eqb-false p q e)

undo_at : (repl : List (ℕ × Row)) (rows : List Row) (p : ℕ) → p < length rows → get_or (undo repl rows) p blank ≡ undone p repl (get_or rows p blank)
undo_at [] rows p h = refl
undo_at (x ∷ xs) rows p h = undo_at xs (set rows x.0 x.1) p (omega (arith, length-set rows x.0 x.1)) ∙ ap (undone p xs) (set_at rows p x.0 x.1 h)

after_length : (op : Operation) (repl : List (ℕ × Row)) (rows : List Row) → length (rows_after op repl rows) ≡ length rows
after_length (Operation.Write t r v c) repl rows = length-set rows (place t r) v
after_length (Operation.Release t) repl rows = refl
after_length Operation.Commit repl rows = refl
after_length Operation.Abort repl rows = undo_length repl rows

after_cell : (m : ℕ → Mode) (before : List Operation) (op : Operation) (repl : List (ℕ × Row)) (rows : List Row) (t r : ℕ) → Allowed m before op → length rows ≡ 512 → t < 8 → r < 64 → get_or (rows_after op repl rows) (place t r) blank ≡ cell_after t r op repl (get_or rows (place t r) blank)
after_cell m before (Operation.Write u q v c) repl rows t r a l ht hr = set_cell rows t r u q v l ht hr a.2 a.3
after_cell m before (Operation.Release u) repl rows t r a l ht hr = refl
after_cell m before Operation.Commit repl rows t r a l ht hr = refl
after_cell m before Operation.Abort repl rows t r a l ht hr = undo_at repl rows (place t r) (omega arith)

place_eqb : (t r u q : ℕ) → r < 64 → q < 64 → eqb (place t r) (place u q) ≡ (eqb t u && eqb r q)
place_eqb t r u q hr hq = go (eqb t u) (eqb r q) refl refl
  where
    go : (a b : Bool) → eqb t u ≡ a → eqb r q ≡ b → eqb (place t r) (place u q) ≡ (a && b)
    go true true e f = eq-eqb (place t r) (place u q) (omega (arith, eqb-true t u e, eqb-true r q f))
    go true false e f = ne_eqb (place t r) (place u q) (λ s. eqb-false r q f (omega (arith, eqb-true t u e)))
    go false b e f = ne_eqb (place t r) (place u q) (λ s. eqb-false t u e (omega arith))

module _ (o : List Row) (n : ℕ) (ns : List Course) (e : Course) (earlier : List Course) (s : State) (p : Represents o n (ns ++ (e ∷ earlier)) s) (j : ℕ) (hj : j < n) where
  abbrev waiting : Transaction → Bool
  waiting y = waits y.course j

  module _ (w : waiting (find (length earlier) s.unfinished) ≡ true) where
    k : Same o n (find (length earlier) s.unfinished) e earlier
    k = tied o n ns e earlier s p waiting refl w

    fine : Fine e earlier
    fine = (valid_behind ns (e ∷ earlier) p.valid).0

    waits_e : waits e j ≡ true
    waits_e = ap (λ c. waits c j) (sym k.course) ∙ w

    -- held back by the version exactly when by a transaction before
    pub held_right : held s (length earlier) j ≡ held_back j e earlier
    held_right =
        below_same _ _ 8 (λ t l.
        ap (λ c. test c t (assigned_at s (length earlier) t) (version s j t)) k.course
        ∙ ap₂ (test e t) (ap (λ v. get_or v t Assigned.None) k.assigned ∙ get_or_tables (λ u. assigned (mode e u) (nx u earlier)) t Assigned.None l ∙ ap (assigned (mode e t)) (nx_marks j t earlier)) (ap (λ v. get_or v t 0) (p.version j hj) ∙ get_or_tables (λ u. let_go (marks j u (ns ++ (e ∷ earlier)))) t 0 l)
        ∙ each t (has_table e (done e j) (next e j) t) refl)
      where
        test : Course → ℕ → Assigned → ℕ → Bool
        test c t a v = has_table c (done c j) (next c j) t && not (admits a v)

        each : (t : ℕ) (b : Bool) → has_table e (done e j) (next e j) t ≡ b → (b && not (admits (assigned (mode e t) (counters (marks j t earlier))) (let_go (marks j t (ns ++ (e ∷ earlier)))))) ≡ (b && blocked j e earlier t)
        each t true h =
            ap not (admits_right j t ns e earlier p.valid (not_gone e (done e j) (next e j) t (next_allowed e earlier j fine waits_e) h)) ∙ not_not (blocks (mode e t) (marks j t earlier)) ∙ sym (blocks_is (mode e t) j t earlier)
        each t false h = refl

    -- the tables of an operation are declared, so below eight
    in_table : (before : List Operation) (op : Operation) (t : ℕ) → Allowed (mode e) before op → has_table e before op t ≡ true → declares (mode e t) ≡ true
    in_table before (Operation.Write u r v c) t a h = rw (eqb-true t u h) (declares_if (mode e u) a.0)
    in_table before (Operation.Release u) t a h = rw (eqb-true t u h) a.0
    in_table before Operation.Commit t a h = (and_parts (declares (mode e t)) (not (released t before)) h).0
    in_table before Operation.Abort t a h = (and_parts (declares (mode e t)) (not (released t before)) h).0

    next_ok : Allowed (mode e) (done e j) (next e j)
    next_ok = next_allowed e earlier j fine waits_e

    free : held_back j e earlier ≡ false → (t : ℕ) → has_table e (done e j) (next e j) t ≡ true → blocks (mode e t) (marks j t earlier) ≡ false
    free h t g =
        let b = below_none (λ u. has_table e (done e j) (next e j) u && blocked j e earlier u) 8 t h (declared_below e t (in_table (done e j) (next e j) t next_ok g)) in
        sym (blocks_is (mode e t) j t earlier) ∙ ap (λ x. x && blocked j e earlier t) (sym g) ∙ b

    gone_kept : (i t : ℕ) → has_let_go e i t ≡ true → has_let_go (advance j e) i t ≡ true
    gone_kept i t h = go (eqb i j) refl
      where
        go : (b : Bool) → eqb i j ≡ b → has_let_go (advance j e) i t ≡ true
        go true q =
            let same : i ≡ j = eqb-true i j q in
            rw same (ap (lets_go t) (done_run e earlier fine j waits_e) ∙ lets_go_push t (done e j) (next e j) ∙ or_left (lets_go t (done e j)) (is_release t (next e j) || is_end (next e j)) (ap (λ l. has_let_go e l t) (sym same) ∙ h))
        go false q = ap (lets_go t) (done_other e earlier fine j waits_e i q) ∙ h

    -- no later transaction that wrote a row had another one before it than it has now
    keeps : (m : Course) (ms : List Course) → Fine m (ms ++ (e ∷ earlier)) → (i t r : ℕ) → wrote t r (done m i) ≡ true → standing (by i) t r (opened o n t r) (ms ++ (advance j e ∷ earlier)) ≡ standing (by i) t r (opened o n t r) (ms ++ (e ∷ earlier))
    keeps m ms f i t r h = standing_amended (by i) t r (opened o n t r) e (advance j e) earlier ms (go (eqb i j) refl)
      where
        y : Row
        y = standing (by i) t r (opened o n t r) earlier

        past : writes (mode e t) ≡ true → (b : Bool) → has_let_go e i t ≡ b → b ≡ true
        past wr true g = refl
        past wr false g = sym (unwritten m (ms ++ (e ∷ earlier)) i t f (left_behind i t e earlier ms (declares_if (mode e t) wr) g)) ∙ wrote_table t r (done m i) h

        go : (b : Bool) → eqb i j ≡ b → leaves t r (done (advance j e) i) y ≡ leaves t r (done e i) y
        go true q =
            let same : i ≡ j = eqb-true i j q in
            let q₁ : done (advance j e) i ≡ done e i ++ (next e i ∷ []) = rw same (done_run e earlier fine j waits_e) in
            ap (λ ops. leaves t r ops y) q₁ ∙ leaves_same (mode e) t r (done e i) (next e i) y (sound_take (mode e) e.asked (e.executed i) (fine.within i) fine.sound) (subst (λ l. Allowed (mode e) (done e l) (next e l)) (sym same) next_ok) (λ wr. past wr (has_let_go e i t) refl)
        go false q = ap (λ ops. leaves t r ops y) (done_other e earlier fine j waits_e i q)

    op_is : next e j ≡ next (find (length earlier) s.unfinished).course j
    op_is = ap (λ c. next c j) (sym k.course)

    -- what the write replaced
    back_here : (op : Operation) → next e j ≡ op → (t r : ℕ) → t < 8 → r < 64 → (z : Row) → ended (done e j ++ (next e j ∷ [])) ≡ false →
        undone (place t r) (replaced_after op ((find (length earlier) s.unfinished).replaced j) (replica s j).rows) z ≡ cond (wrote t r (done e j ++ (next e j ∷ []))) (standing (by j) t r (opened o n t r) earlier) z
    back_here op eq t r ht hr z h = rw eq (go op eq (or_parts (ended (done e j)) (is_end op) (sym (some_push is_end (done e j) op) ∙ ap (λ q. ended (done e j ++ (q ∷ []))) (sym eq) ∙ h)))
      where
        repl : List (ℕ × Row)
        repl = (find (length earlier) s.unfinished).replaced j

        base : Row
        base = standing (by j) t r (opened o n t r) earlier

        go : (op : Operation) → next e j ≡ op → (ended (done e j) ≡ false) × (is_end op ≡ false) → undone (place t r) (replaced_after op ((find (length earlier) s.unfinished).replaced j) (replica s j).rows) z ≡ cond (wrote t r (done e j ++ (op ∷ []))) (standing (by j) t r (opened o n t r) earlier) z
        go (Operation.Write u q v c) eq b =
            k.back j t r hj ht hr (cond (eqb (place t r) (place u q)) (get_or (replica s j).rows (place u q) blank) z) b.0 ∙ ap (λ d. cond (wrote t r (done e j)) base (cond d (get_or (replica s j).rows (place u q) blank) z)) (place_eqb t r u q hr a.3) ∙ pick (wrote t r (done e j)) (eqb t u && eqb r q) refl refl ∙ ap (λ d. cond d base z) (sym (some_push (is_write_cell t r) (done e j) (Operation.Write u q v c)))
          where
            a : Allowed (mode e) (done e j) (Operation.Write u q v c)
            a = subst (Allowed (mode e) (done e j)) eq next_ok

            was : wrote t r (done e j) ≡ false → t ≡ u → r ≡ q → get_or (replica s j).rows (place u q) blank ≡ base
            was nw tu rq =
                let g : has_let_go e j t ≡ false = rw tu a.1 in
                ap₂ (λ l m. get_or (replica s j).rows (place l m) blank) (sym tu) (sym rq) ∙ p.rows j t r hj ht hr ∙ quiet_since j t r (opened o n t r) e e earlier ns p.valid (rw tu (declares_if (mode e u) a.0)) g ∙ ap (λ d. cond d base (puts t r (done e j) base)) (not_aborted (done e j) b.0) ∙ puts_cell t r (done e j) base nw

            pick : (c d : Bool) → wrote t r (done e j) ≡ c → (eqb t u && eqb r q) ≡ d → cond c base (cond d (get_or (replica s j).rows (place u q) blank) z) ≡ cond (c || d) base z
            pick true d hc hd = refl
            pick false true hc hd = let pr = and_parts (eqb t u) (eqb r q) hd in was hc (eqb-true t u pr.0) (eqb-true r q pr.1)
            pick false false hc hd = refl
        go (Operation.Release u) eq b = k.back j t r hj ht hr z b.0 ∙ ap (λ d. cond d base z) (sym (some_push (is_write_cell t r) (done e j) (Operation.Release u) ∙ or_false (wrote t r (done e j))))
        go Operation.Commit eq b = absurd (true≢false b.1)
        go Operation.Abort eq b = absurd (true≢false b.1)

    y_same : Same o n (stepped_transaction s (length earlier) j) (advance j e) earlier
    y_same = record { number = k.number; course = ap (advance j) k.course; assigned = k.assigned; back = λ i t r hi ht hr z h. go i t r hi ht hr z (eqb i j) refl h }
      where
        go : (i t r : ℕ) → i < n → t < 8 → r < 64 → (z : Row) (b : Bool) → eqb i j ≡ b → ended (done (advance j e) i) ≡ false → undone (place t r) (cond b (replaced_after (next (find (length earlier) s.unfinished).course j) ((find (length earlier) s.unfinished).replaced j) (replica s j).rows) ((find (length earlier) s.unfinished).replaced i)) z ≡ cond (wrote t r (done (advance j e) i)) (standing (by i) t r (opened o n t r) earlier) z
        go i t r hi ht hr z true q h =
            let same : i ≡ j = eqb-true i j q in
            let d = done_run e earlier fine j waits_e in
            let h₁ : ended (done e j ++ (next e j ∷ [])) ≡ false = ap ended (sym d) ∙ ap (λ l. ended (done (advance j e) l)) (sym same) ∙ h in
            back_here (next (find (length earlier) s.unfinished).course j) op_is t r ht hr z h₁ ∙ ap (λ ops. cond (wrote t r ops) (standing (by j) t r (opened o n t r) earlier) z) (sym d) ∙ ap (λ l. cond (wrote t r (done (advance j e) l)) (standing (by l) t r (opened o n t r) earlier) z) (sym same)
        go i t r hi ht hr z false q h =
            let d = done_other e earlier fine j waits_e i q in
            k.back i t r hi ht hr z (ap ended (sym d) ∙ h) ∙ ap (λ ops. cond (wrote t r ops) (standing (by i) t r (opened o n t r) earlier) z) (sym d)

    pub execute_kept : held_back j e earlier ≡ false → Represents o n (ns ++ (advance j e ∷ earlier)) (stepping s (length earlier) j)
    execute_kept h =
        record {
          valid = valid_amended e (advance j e) earlier (λ t. refl) gone_kept ns p.valid (fine_run e earlier fine j waits_e (free h));
          replicas = length-set s.replicas j new ∙ p.replicas;
          begun = p.begun ∙ sym (length_amended o n e (advance j e) earlier ns);
          next = p.next ∙ ap tables (fun_ext (λ t. sym (nx_amended t e (advance j e) earlier ns refl)));
          version = λ i hi. ap (λ z. z.version) (now i) ∙ versions i hi (eqb i j) refl;
          sized = λ i hi. ap (λ z. length z.rows) (now i) ∙ sized i hi (eqb i j);
          rows = λ i t r hi ht hr. ap (λ z. get_or z.rows (place t r) blank) (now i) ∙ rows i t r hi ht hr (eqb i j) refl;
          oldest_first = subst (λ m. OldestFirst m (unf (all_executed (length s.replicas) (advance j c)))) (sym (length_amended o n e (advance j e) earlier ns)) (in_order (all_executed (length s.replicas) (advance j c)));
          known = known_amended o n s.unfinished (unf (all_executed (length s.replicas) (advance j c))) e (advance j e) earlier (λ t. refl) (others (all_executed (length s.replicas) (advance j c))) (here (all_executed (length s.replicas) (advance j c)) refl) keeps ns p.valid p.known;
        }
      where
        c : Course
        c = (find (length earlier) s.unfinished).course

        unf : Bool → List Transaction
        unf b = cond b (remove (length earlier) s.unfinished) (replace (length earlier) (stepped_transaction s (length earlier) j) s.unfinished)

        others : (b : Bool) (i : ℕ) → i ≢ length earlier → find i (unf b) ≡ find i s.unfinished
        others true i q = find_remove_other (length earlier) i s.unfinished q
        others false i q = find_replace_other (length earlier) (stepped_transaction s (length earlier) j) k.number i s.unfinished q

        here : (b : Bool) → all_executed (length s.replicas) (advance j c) ≡ b → Tied o n (find (length earlier) (unf b)) (advance j e) earlier
        here true q = inr (find_remove_same (length earlier) s.unfinished p.oldest_first.rising, ap₂ (λ l d. all_executed l (advance j d)) (sym p.replicas) (sym k.course) ∙ q)
        here false q = inl (subst (λ z. Same o n z (advance j e) earlier) (sym (find_replace_same (length earlier) (stepped_transaction s (length earlier) j) k.number waiting refl s.unfinished w)) y_same)

        in_order : (b : Bool) → OldestFirst (length (ns ++ (e ∷ earlier))) (unf b)
        in_order true = oldest_first_remove (length earlier) (length (ns ++ (e ∷ earlier))) s.unfinished p.oldest_first
        in_order false = oldest_first_replace (length earlier) (stepped_transaction s (length earlier) j) k.number (length (ns ++ (e ∷ earlier))) s.unfinished p.oldest_first

        new : Replica
        new = stepped_replica s (length earlier) j

        now : (i : ℕ) → get_or (set s.replicas j new) i (record { rows = []; version = [] }) ≡ cond (eqb i j) new (replica s i)
        now i = go (eqb i j) refl
          where
            go : (b : Bool) → eqb i j ≡ b → get_or (set s.replicas j new) i (record { rows = []; version = [] }) ≡ cond b new (replica s i)
            go true q = ap (λ l. get_or (set s.replicas j new) l (record { rows = []; version = [] })) (eqb-true i j q) ∙ get_or-set_same s.replicas j new (record { rows = []; version = [] }) (omega (arith, p.replicas))
            go false q = get_or-set_other s.replicas j i new (record { rows = []; version = [] }) (eqb-false i j q)

        versions : (i : ℕ) → i < n → (b : Bool) → eqb i j ≡ b → (cond b new (replica s i)).version ≡ tables (λ t. let_go (marks i t (ns ++ (advance j e ∷ earlier))))
        versions i hi true q = ap₂ (λ d v. tables (λ t. version_after d j t (get_or v t 0))) k.course (p.version j hj) ∙ ap tables (fun_ext (λ t. sym (version_run j t e earlier ns fine waits_e) ∙ ap (λ l. let_go (marks l t (ns ++ (advance j e ∷ earlier)))) (sym (eqb-true i j q))))
        versions i hi false q = p.version i hi ∙ ap tables (fun_ext (λ t. sym (ap let_go (marks_other i t e (advance j e) earlier ns refl (done_other e earlier fine j waits_e i q)))))

        sized : (i : ℕ) → i < n → (b : Bool) → length (cond b new (replica s i)).rows ≡ 512
        sized i hi true = after_length (next c j) ((find (length earlier) s.unfinished).replaced j) (replica s j).rows ∙ p.sized j hj
        sized i hi false = p.sized i hi

        rows : (i t r : ℕ) → i < n → t < 8 → r < 64 → (b : Bool) → eqb i j ≡ b → get_or (cond b new (replica s i)).rows (place t r) blank ≡ standing (by i) t r (opened o n t r) (ns ++ (advance j e ∷ earlier))
        rows i t r hi ht hr true q =
            let repl = (find (length earlier) s.unfinished).replaced j in
            after_cell (mode e) (done e j) (next c j) repl (replica s j).rows t r (subst (Allowed (mode e) (done e j)) op_is next_ok) (p.sized j hj) ht hr ∙ ap (cell_after t r (next c j) repl) (p.rows j t r hj ht hr) ∙ sym (rows_run j t r (opened o n t r) e earlier ns p.valid waits_e (next c j) repl op_is (k.back j t r hj ht hr)) ∙ ap (λ l. standing (by l) t r (opened o n t r) (ns ++ (advance j e ∷ earlier))) (sym (eqb-true i j q))
        rows i t r hi ht hr false q = p.rows i t r hi ht hr ∙ sym (standing_amended (by i) t r (opened o n t r) e (advance j e) earlier ns (ap (λ ops. leaves t r ops (standing (by i) t r (opened o n t r) earlier)) (done_other e earlier fine j waits_e i q)))
