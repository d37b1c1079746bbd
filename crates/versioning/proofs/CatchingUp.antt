-- The oldest transaction unfinished at a replica is never held back there, so the replica can be emptied.
use Rattle.std.proofs.Common.{◌≡◌, ℕ, zero, suc, ◌+◌, ◌<◌, ◌≤◌, Bool, true, false, cond, not, ◌&&◌, List, [], ◌∷◌, ◌++◌, length, replicate, Some, Option, sym, refl, ap, ◌∙◌, subst, ap₂, append_assoc, arith, length-drop}
use Rattle.std.specs.List.{AllByRecursion}
use Rattle.std.proofs.ByRecursion.{All-append}
use Rattle.std.proofs.lemmas.List.{take_all}
use Rattle.std.proofs.lemmas.Bool.{eq-eqb, le-ltb, lt-ltb, or_parts, or_from, or_right, and_right, not-false, not_from_true}
use Rattle.catalogue.specs.declared.row.Row.{Row}
use Rattle.catalogue.specs.Refusals.{first, unless_refused}
use Rattle.sequencing.specs.declared.call.Call.{Call}
use Rattle.sequencing.specs.Modes.{some}
use Rattle.versioning.specs.declared.request.Request.{Request}
use Rattle.versioning.specs.declared.request.Outcome.{Outcome}
use Rattle.versioning.specs.Words.{some_below, conflict, released, ended, aborted, Course, advance, mode, done, waiting, waits, next, has_let_go, has_table}
use Rattle.versioning.specs.Machine.{Answer, History, State, start, step_checks, as_outcome, reply, after, answered, final}
use Rattle.versioning.specs.Ledger.{Gave, Ledger, nothing, amend, note, ledger}
use Rattle.versioning.specs.Serial.{written, serial, NothingWaits, blocked, held_back, OldestNeverHeldBack, catching_up, AlwaysCatchesUp}
use Rattle.versioning.proofs.Valid.{Valid, valid_behind}
use Rattle.versioning.proofs.Represents.{Represents, amend_split}
use Rattle.versioning.proofs.Runs.{Inv, requested, every_run, first_state, step_is, settled}

none_below : (p : ℕ → Bool) (n : ℕ) → ((t : ℕ) → p t ≡ false) → some_below n p ≡ false
none_below p zero h = refl
none_below p (suc n) h = or_from (p n) (some_below n p) (h n) (none_below p n h)

none_blocks : (j t : ℕ) (c : Course) (earlier : List Course) → some (λ e. not (ended (done e j))) earlier ≡ false → blocked j c earlier t ≡ false
none_blocks j t c [] h = refl
none_blocks j t c (e ∷ earlier) h =
    let p = or_parts (not (ended (done e j))) (some (λ d. not (ended (done d j))) earlier) h in
    or_from (conflict (mode c t) (mode e t) && not (has_let_go e j t)) (blocked j c earlier t) (and_right (conflict (mode c t) (mode e t)) (not (has_let_go e j t)) (not_from_true (has_let_go e j t) (or_right (released t (done e j)) (ended (done e j)) (not-false (ended (done e j)) p.0)))) (none_blocks j t c earlier p.1)

oldest_free : (j : ℕ) (c : Course) (earlier : List Course) → some (λ e. not (ended (done e j))) earlier ≡ false → held_back j c earlier ≡ false
oldest_free j c earlier h =
    none_below (λ t. has_table c (done c j) (next c j) t && blocked j c earlier t) 8 (λ t. and_right (has_table c (done c j) (next c j) t) (blocked j c earlier t) (none_blocks j t c earlier h))

-- a transaction of which the replica j has executed m operations more
abbrev advanced : ℕ → ℕ → Course → Course
advanced j zero c = c
advanced j (suc m) c = advanced j m (advance j c)

executed_once : (j : ℕ) (c : Course) → (advance j c).executed j ≡ c.executed j + 1
executed_once j c = ap (λ b. cond b (c.executed j + 1) (c.executed j)) (eq-eqb j j refl)

executed_more : (j m : ℕ) (c : Course) → (advanced j m c).executed j ≡ c.executed j + m
executed_more j zero c = omega arith
executed_more j (suc m) c = omega (arith, executed_more j m (advance j c), executed_once j c)

asked_same : (j m : ℕ) (c : Course) → (advanced j m c).asked ≡ c.asked
asked_same j zero c = refl
asked_same j (suc m) c = asked_same j m (advance j c)

-- the transactions when the replica j has executed all that they asked
abbrev caught : ℕ → List Course → List Course
caught j [] = []
caught j (c ∷ earlier) = advanced j (length (waiting c j)) c ∷ caught j earlier

length_caught : (j : ℕ) (cs : List Course) → length (caught j cs) ≡ length cs
length_caught j [] = refl
length_caught j (c ∷ cs) = ap suc (length_caught j cs)

all_done : (j : ℕ) (c : Course) → length c.asked ≤ (advanced j (length (waiting c j)) c).executed j
all_done j c = omega (arith, executed_more j (length (waiting c j)) c, length-drop (c.executed j) c.asked)

nothing_waits : (j : ℕ) (cs : List Course) → NothingWaits j (caught j cs)
nothing_waits j [] = refl
nothing_waits j (c ∷ cs) =
    let d = advanced j (length (waiting c j)) c in
    or_from (waits d j) (some (λ e. waits e j) (caught j cs)) (le-ltb (d.executed j) (length d.asked) (omega (arith, all_done j c, ap length (asked_same j (length (waiting c j)) c)))) (nothing_waits j cs)

all_ended : (j : ℕ) (cs : List Course) → some (λ c. not (ended c.asked)) cs ≡ false → some (λ c. not (ended (done c j))) (caught j cs) ≡ false
all_ended j [] h = refl
all_ended j (c ∷ cs) h =
    let p = or_parts (not (ended c.asked)) (some (λ e. not (ended e.asked)) cs) h in
    let d = advanced j (length (waiting c j)) c in
    let same = asked_same j (length (waiting c j)) c in
    let e : done d j ≡ c.asked = take_all (d.executed j) d.asked (omega (arith, all_done j c, ap length same)) ∙ same in
    or_from (not (ended (done d j))) (some (λ x. not (ended (done x j))) (caught j cs)) (ap (λ ops. not (ended ops)) e ∙ p.0) (all_ended j cs p.1)

serial_caught : (o : List Row) (j : ℕ) (cs : List Course) → serial o (caught j cs) ≡ serial o cs
serial_caught o j [] = refl
serial_caught o j (c ∷ cs) =
    ap₂ (λ ops rows. cond (aborted ops) rows (written ops rows)) (asked_same j (length (waiting c j)) c) (serial_caught o j cs)

module _ {V K : Type 0} (pack : V → Row) (unpack : K → Row → Option V) where
  abbrev Accepted : Request V K × Answer V → Type 0
  Accepted x = x.1 ≡ (0, Some Outcome.Accepted)

  -- a run in two parts
  answered_append : (s : State) (xs ys : List (Request V K)) → answered pack unpack s (xs ++ ys) ≡ answered pack unpack s xs ++ answered pack unpack (final pack unpack s xs) ys
  answered_append s [] ys = refl
  answered_append s (x ∷ xs) ys = ap (λ zs. (x, reply pack unpack s x) ∷ zs) (answered_append (after pack unpack s x) xs ys)

  ledger_append : (xs ys : History V K) (l : Ledger (Gave V K)) → ledger pack (xs ++ ys) l ≡ ledger pack ys (ledger pack xs l)
  ledger_append [] ys l = refl
  ledger_append (x ∷ xs) ys l = ledger_append xs ys (note pack x.0 x.1 l)

  module _ (o : List Row) (n j : ℕ) (hj : j < n) where
    -- the oldest unfinished one is stepped
    oldest_step : (ns : List Course) (c : Course) (earlier : List Course) (k : ℕ) (l : Ledger (Gave V K)) (s : State) → Inv o n pack unpack l s → l.begun ≡ ns ++ (c ∷ earlier) → k ≡ length earlier → waits c j ≡ true → some (λ e. not (ended (done e j))) earlier ≡ false → reply pack unpack s (Request.Call (Call.Step k j)) ≡ (0, Some Outcome.Accepted)
    oldest_step ns c earlier k l s i e kk w h =
        let passed : first (step_checks s k j) ≡ 0 =
        ap (λ x. first (step_checks s x j)) kk
        ∙ step_is o n s ns c earlier (subst (λ cs. Represents o n cs s) e i.rep) j hj w
        ∙ ap (λ b. cond b 17 0) (oldest_free j c earlier h)
        in
        ap (λ x. as_outcome (λ y. Outcome.Accepted) (unless_refused x tt)) passed

    -- and m times
    steps_run : (m : ℕ) (ns : List Course) (c : Course) (earlier : List Course) (k : ℕ) (l : Ledger (Gave V K)) (s : State) → Inv o n pack unpack l s → l.begun ≡ ns ++ (c ∷ earlier) → k ≡ length earlier → some (λ e. not (ended (done e j))) earlier ≡ false → c.executed j + m ≤ length c.asked →
        AllByRecursion Accepted (answered pack unpack s (replicate m (Request.Call (Call.Step k j)))) × ((ledger pack (answered pack unpack s (replicate m (Request.Call (Call.Step k j)))) l).begun ≡ ns ++ (advanced j m c ∷ earlier))
    steps_run zero ns c earlier k l s i e kk h w = (tt, e)
    steps_run (suc m) ns c earlier k l s i e kk h w =
        let q : Request V K = Request.Call (Call.Step k j) in
        let accepted = oldest_step ns c earlier k l s i e kk (lt-ltb (c.executed j) (length c.asked) (omega arith)) h in
        let begun' : (note pack q (reply pack unpack s q) l).begun ≡ ns ++ (advance j c ∷ earlier) =
        ap (λ a. (note pack q a l).begun) accepted ∙ ap₂ (λ x cs. amend x (advance j) cs) kk e ∙ amend_split (advance j) ns c earlier
        in
        let r = steps_run m ns (advance j c) earlier k (note pack q (reply pack unpack s q) l) (after pack unpack s q) (requested o n pack unpack l s i q) begun' kk h (omega (arith, executed_once j c)) in
        ((accepted, r.0), r.1)

    all_run : (cs ns : List Course) (l : Ledger (Gave V K)) (s : State) → Inv o n pack unpack l s → l.begun ≡ ns ++ cs → some (λ c. not (ended c.asked)) cs ≡ false →
        AllByRecursion Accepted (answered pack unpack s (catching_up j cs)) × ((ledger pack (answered pack unpack s (catching_up j cs)) l).begun ≡ ns ++ caught j cs)
    all_run [] ns l s i e h = (tt, e)
    all_run (c ∷ earlier) ns l s i e h =
        let p = or_parts (not (ended c.asked)) (some (λ x. not (ended x.asked)) earlier) h in
        let qs : List (Request V K) = catching_up j earlier in
        let rs : List (Request V K) = replicate (length (waiting c j)) (Request.Call (Call.Step (length earlier) j)) in
        let a = all_run earlier (ns ++ (c ∷ [])) l s i (e ∙ sym (append_assoc ns (c ∷ []) earlier)) p.1 in
        let l' = ledger pack (answered pack unpack s qs) l in
        let s' = final pack unpack s qs in
        let within : c.executed j ≤ length c.asked = (valid_behind ns (c ∷ earlier) (subst Valid e i.rep.valid)).0.within j in
        let b = steps_run (length (waiting c j)) ns c (caught j earlier) (length earlier) l' s' (every_run o n pack unpack qs l s i) (a.1 ∙ append_assoc ns (c ∷ []) (caught j earlier)) (sym (length_caught j earlier)) (all_ended j earlier p.1) (omega (arith, length-drop (c.executed j) c.asked)) in
        let whole = answered_append s qs rs in (
          subst (AllByRecursion Accepted) (sym whole) (All-append Accepted (answered pack unpack s qs) (answered pack unpack s' rs) a.0 b.0),
          ap (λ xs. (ledger pack xs l).begun) whole ∙ ap (λ x. x.begun) (ledger_append (answered pack unpack s qs) (answered pack unpack s' rs) l) ∙ b.1,
        )

  pub oldest_never_held_back : OldestNeverHeldBack pack unpack
  oldest_never_held_back o n qs j later c earlier len hj e w h =
      oldest_step o n j hj later c earlier (length earlier) (ledger pack (answered pack unpack (start n o) qs) nothing) (final pack unpack (start n o) qs) (every_run o n pack unpack qs nothing (start n o) (first_state o n pack unpack len)) e refl w h

  pub always_catches_up : AlwaysCatchesUp pack unpack
  always_catches_up o n qs j len hj h =
      let s = final pack unpack (start n o) qs in
      let l = ledger pack (answered pack unpack (start n o) qs) nothing in
      let i = every_run o n pack unpack qs nothing (start n o) (first_state o n pack unpack len) in
      let steps : List (Request V K) = catching_up j l.begun in
      let a = all_run o n j hj l.begun [] l s i refl h in
      let empty : NothingWaits j (ledger pack (answered pack unpack s steps) l).begun = subst (NothingWaits j) (sym a.1) (nothing_waits j l.begun) in
      record {
        accepted = a.0;
        empty = empty;
        rows = settled o n pack unpack len (ledger pack (answered pack unpack s steps) l) (final pack unpack s steps) (every_run o n pack unpack steps l s i) j hj empty ∙ ap (serial o) a.1 ∙ serial_caught o j l.begun;
      }
