-- Every request keeps the relation between ledger and state, so every run does.
use Rattle.std.proofs.Common.{◌≡◌, ℕ, zero, suc, ◌<◌, ◌≤◌, Bool, true, false, cond, not, ◌&&◌, eqb, ltb, ◌⊎◌, ◌↔◌, List, [], ◌∷◌, ◌++◌, length, get_or, Some, None, Option, unwrap_or, sym, refl, ap, ◌∙◌, subst, inl, inr, true≢false, arith, length-append}
use mathlib.Core.Bool.{false≢true}
use lib.ListN.{length-replicate, get_or-replicate}
use Rattle.std.specs.Option.{option_map}
use Rattle.std.specs.List.{AllByRecursion}
use Rattle.std.proofs.ByRecursion.{All-weaker}
use Rattle.std.proofs.lemmas.Bool.{eqb-true, ne_eqb, cases_lt, or_from, and_parts, ltb-true, lt-ltb, not-false, not-true, not_from_false}
use Rattle.catalogue.specs.declared.row.Row.{Row}
use Rattle.catalogue.specs.Refusals.{first, unless_refused}
use Rattle.catalogue.specs.Rows.{blank, place}
use Rattle.catalogue.specs.Replicated.{catalogue_of}
use Rattle.catalogue.specs.Kinds.{value_reply}
use Rattle.sequencing.specs.declared.mode.Mode.{Mode}
use Rattle.sequencing.specs.declared.call.Call.{Call}
use Rattle.sequencing.specs.Modes.{some, tables, declares}
use Rattle.versioning.specs.declared.operation.Operation.{Operation}
use Rattle.versioning.specs.declared.request.Request.{Request}
use Rattle.versioning.specs.declared.request.Outcome.{Outcome}
use Rattle.versioning.specs.Words.{some_below, writes, is_write_at, released, ended, Course, beginning, ask, advance, mode, waiting, waits}
use Rattle.versioning.specs.Machine.{Answer, History, State, Replica, start, rows_of, find, admits, kept_if_refused, replica, version, course, assigned_at, held, qualifies, chosen, asking, begin_checks, beginning_after, write_checks, read_checks, found, release_checks, commit_checks, abort_checks, step_checks, stepping, and_then, as_outcome, reply, after, answered, final}
use Rattle.versioning.specs.Ledger.{Gave, row, value, Reading, Ledger, nothing, from, amend, asked_by, with_begun, with_reading, enter, note, ledger}
use Rattle.versioning.specs.Serial.{serial, Agrees, Finds, NothingWaits, held_back, HeldBackRightly, SerialOrder}
use Rattle.versioning.proofs.Checks.{all_passed}
use Rattle.versioning.proofs.Ops.{Allowed}
use Rattle.versioning.proofs.Valid.{valid_behind}
use Rattle.versioning.proofs.Cells.{caught_up, serial_cell, length_serial, same_rows}
use Rattle.versioning.proofs.Executed.{declares_if}
use Rattle.versioning.proofs.Represents.{split, from_split, amend_split, Tied, known_at, Represents, begins, tied, asks_kept}
use Rattle.versioning.proofs.Stepped.{below_none, declared_below, held_right, execute_kept}
use Rattle.versioning.proofs.Readings.{Good, good_right, good_begun, good_at, good_ask, good_run, stands}
use Rattle.versioning.proofs.Chosen.{chosen_right, one_chosen}

-- the rows of a replica, in the list of all replicas' rows
pub rows_at : (rs : List Replica) (j : ℕ) → catalogue_of (rows_of rs) j ≡ (get_or rs j (record { rows = []; version = [] })).rows
rows_at [] j = refl
rows_at (r ∷ rs) zero = refl
rows_at (r ∷ rs) (suc j) = rows_at rs j

pub rows_many : (rs : List Replica) → length (rows_of rs) ≡ length rs
rows_many [] = refl
rows_many (r ∷ rs) = ap suc (rows_many rs)

from_past : (k : ℕ) (cs : List Course) → length cs ≤ k → from k cs ≡ []
from_past k [] h = refl
from_past k (c ∷ cs) h = ap (λ b. cond b (c ∷ cs) (from k cs)) (ne_eqb (length cs) k (λ q. omega arith)) ∙ from_past k cs (omega arith)

module _ (o : List Row) (n : ℕ) where
  -- what the ledger tells is what the state is, and what a read gave agrees with the serial run
  module _ {G : Type 0} (agrees : G → Row → Type 0) where
    abbrev pub Kept : State → List Course → List (Reading G) → Type 0
    Kept s cs rds = Represents o n cs s × AllByRecursion (Good o n agrees cs) rds

    pub asked : (op : Operation) (s : State) (rds : List (Reading G)) (cs : List Course) (k : ℕ) → k < length cs → Kept s cs rds → ended (course s k).asked ≡ false → Allowed (mode (course s k)) (course s k).asked op → Kept (asking s k op) (amend k (ask op) cs) rds
    asked op s rds =
        split (λ k cs. Kept s cs rds → ended (course s k).asked ≡ false → Allowed (mode (course s k)) (course s k).asked op → Kept (asking s k op) (amend k (ask op) cs) rds) (λ ns e earlier p u a.
        let open' : not (ended (course s (length earlier)).asked) ≡ true = not_from_false (ended (course s (length earlier)).asked) u in
        let k = tied o n ns e earlier s p.0 (λ y. not (ended y.course.asked)) refl open' in
        subst (λ cs. Kept (asking s (length earlier) op) cs rds) (sym (amend_split (ask op) ns e earlier)) (
          asks_kept o n ns e earlier s p.0 op open' a,
          All-weaker (Good o n agrees (ns ++ (e ∷ earlier))) (Good o n agrees (ns ++ (ask op e ∷ earlier))) (λ rd g. good_ask o n agrees op e earlier ns rd (valid_behind ns (e ∷ earlier) p.0.valid).0 (subst (λ c. Allowed (mode c) c.asked op) k.course a) g) rds p.1,
        ))

    pub stepped : (j : ℕ) (s : State) (rds : List (Reading G)) (cs : List Course) (k : ℕ) → k < length cs → j < n → Kept s cs rds → waits (course s k) j ≡ true → held s k j ≡ false → Kept (stepping s k j) (amend k (advance j) cs) rds
    stepped j s rds =
        split (λ k cs. j < n → Kept s cs rds → waits (course s k) j ≡ true → held s k j ≡ false → Kept (stepping s k j) (amend k (advance j) cs) rds) (λ ns e earlier hj p w h.
        subst (λ cs. Kept (stepping s (length earlier) j) cs rds) (sym (amend_split (advance j) ns e earlier)) (
          execute_kept o n ns e earlier s p.0 j hj w (sym (held_right o n ns e earlier s p.0 j hj w) ∙ h),
          All-weaker (Good o n agrees (ns ++ (e ∷ earlier))) (Good o n agrees (ns ++ (advance j e ∷ earlier))) (λ rd g. good_run o n agrees j e earlier ns rd g) rds p.1,
        ))

    pub read_at : (s : State) (j t r : ℕ) (g : G) → agrees g (found s j t r) → (cs : List Course) (k : ℕ) → k < length cs → Represents o n cs s → j < n → t < 8 → r < 64 → ended (course s k).asked ≡ false → released t (course s k).asked ≡ false → declares (mode (course s k) t) ≡ true → qualifies s k t j ≡ true →
        Good o n agrees cs (record { number = k; behind = asked_by (from k cs); table = t; row = r; gave = g })
    read_at s j t r g a =
        split (λ k cs. Represents o n cs s → j < n → t < 8 → r < 64 → ended (course s k).asked ≡ false → released t (course s k).asked ≡ false → declares (mode (course s k) t) ≡ true → qualifies s k t j ≡ true → Good o n agrees cs (record { number = k; behind = asked_by (from k cs); table = t; row = r; gave = g })) (λ ns e earlier p hj ht hr u re d ad.
        let x = find (length earlier) s.unfinished in
        let k = tied o n ns e earlier s p (λ y. not (ended y.course.asked)) refl (not_from_false (ended x.course.asked) u) in
        let c = k.course in
        let q = and_parts (admits (assigned_at s (length earlier) t) (version s j t)) (not (writes (mode x.course t) && some (is_write_at t) (waiting x.course j))) ad in
        subst (λ l. Good o n agrees (ns ++ (e ∷ earlier)) (record { number = length earlier; behind = asked_by l; table = t; row = r; gave = g })) (sym (from_split ns e earlier))
        (good_at o n agrees (record { number = length earlier; behind = length e.asked; table = t; row = r; gave = g }) ns e earlier refl
        (stands o n agrees ns e earlier s p x k j t r hj ht hr (subst (λ z. ended z.asked ≡ false) c u) (subst (λ z. released t z.asked ≡ false) c re) (subst (λ z. declares (mode z t) ≡ true) c d) q.0 (not-true (writes (mode e t) && some (is_write_at t) (waiting e j)) (subst (λ z. not (writes (mode z t) && some (is_write_at t) (waiting z j)) ≡ true) c q.1)) g a)))

  module _ {V K : Type 0} (pack : V → Row) (unpack : K → Row → Option V) where
    pub record Inv (l : Ledger (Gave V K)) (s : State) : Type 0 where
      pub rep : Represents o n l.begun s
      pub good : AllByRecursion (Good o n (Agrees unpack) l.begun) l.readings

    -- a request whose answer its checks decide
    by_checks : {A : Type 0} (m : ℕ) (x : A) (f : A → Outcome V) (q : Request V K) (l : Ledger (Gave V K)) (s later : State) → Inv l s → (m ≡ 0 → Inv (enter pack q (f x) l) later) → Inv (note pack q (as_outcome f (unless_refused m x)) l) (kept_if_refused m s later)
    by_checks m x f q l s later i accepted = go (eqb m 0) refl
      where
        go : (b : Bool) → eqb m 0 ≡ b → Inv (elim (option_map f (cond b (Some x) None)) [ None ↦ l | Some y ↦ enter pack q y l ]) (cond b later s)
        go true e = accepted (eqb-true m 0 e)
        go false e = i

    module _ (l : Ledger (Gave V K)) (s : State) (i : Inv l s) where
      below_begun : (k : ℕ) → not (ltb k s.counts.begun) ≡ false → k < length l.begun
      below_begun k h = omega (arith, ltb-true k s.counts.begun (not-false (ltb k s.counts.begun) h), i.rep.begun)

      from_kept : (cs : List Course) (later : State) → Kept (Agrees unpack) later cs l.readings → Inv (with_begun cs l) later
      from_kept cs later k = record { rep = k.0; good = k.1 }

      began : (modes : List Mode) → Inv (with_begun (beginning modes ∷ l.begun) l) (beginning_after s modes)
      began modes =
          from_kept (beginning modes ∷ l.begun) (beginning_after s modes) (
            begins o n modes l.begun s i.rep,
            All-weaker (Good o n (Agrees unpack) l.begun) (Good o n (Agrees unpack) (beginning modes ∷ l.begun)) (λ rd g. good_begun o n (Agrees unpack) (beginning modes) l.begun rd g) l.readings i.good,
          )

      wrote : (k t r : ℕ) (v : Row) (c : ℕ) → first (write_checks s k t r c) ≡ 0 → Inv (with_begun (amend k (ask (Operation.Write t r v c)) l.begun) l) (asking s k (Operation.Write t r v c))
      wrote k t r v c h =
          let p = all_passed (write_checks s k t r c) h in
          let ops = (course s k).asked in
          let writing = not-false (writes (mode (course s k) t)) p.1.1.1.1.1.0 in
          let held_on = or_from (released t ops) (ended ops) p.1.1.1.1.1.1.0 p.1.0 in
          from_kept (amend k (ask (Operation.Write t r v c)) l.begun) (asking s k (Operation.Write t r v c)) (asked (Agrees unpack) (Operation.Write t r v c) s l.readings l.begun k (below_begun k p.0) (i.rep, i.good) p.1.0 (writing, held_on, ltb-true t 8 (not-false (ltb t 8) p.1.1.0), ltb-true r 64 (not-false (ltb r 64) p.1.1.1.0)))

      released_it : (k t : ℕ) → first (release_checks s k t) ≡ 0 → Inv (with_begun (amend k (ask (Operation.Release t)) l.begun) l) (asking s k (Operation.Release t))
      released_it k t h =
          let p = all_passed (release_checks s k t) h in
          let ops = (course s k).asked in
          from_kept (amend k (ask (Operation.Release t)) l.begun) (asking s k (Operation.Release t)) (asked (Agrees unpack) (Operation.Release t) s l.readings l.begun k (below_begun k p.0) (i.rep, i.good) p.1.0 (not-false (declares (mode (course s k) t)) p.1.1.1.0, or_from (released t ops) (ended ops) p.1.1.1.1.0 p.1.0))

      committed : (k : ℕ) → first (commit_checks s k) ≡ 0 → Inv (with_begun (amend k (ask Operation.Commit) l.begun) l) (asking s k Operation.Commit)
      committed k h =
          let p = all_passed (commit_checks s k) h in
          from_kept (amend k (ask Operation.Commit) l.begun) (asking s k Operation.Commit) (asked (Agrees unpack) Operation.Commit s l.readings l.begun k (below_begun k p.0) (i.rep, i.good) p.1.0 p.1.0)

      aborted_it : (k : ℕ) → first (abort_checks s k) ≡ 0 → Inv (with_begun (amend k (ask Operation.Abort) l.begun) l) (asking s k Operation.Abort)
      aborted_it k h =
          let p = all_passed (abort_checks s k) h in
          let c = course s k in
          from_kept (amend k (ask Operation.Abort) l.begun) (asking s k Operation.Abort) (asked (Agrees unpack) Operation.Abort s l.readings l.begun k (below_begun k p.0) (i.rep, i.good) p.1.0 (p.1.0, λ t w. kept c t w (released t c.asked) (below_none (λ u. writes (mode c u) && released u c.asked) 8 t p.1.1.0 (declared_below c t (declares_if (mode c t) w)))))
        where
          kept : (c : Course) (t : ℕ) → writes (mode c t) ≡ true → (b : Bool) → (writes (mode c t) && b) ≡ false → b ≡ false
          kept c t w b h = ap (λ a. a && b) (sym w) ∙ h

      executed_it : (k j : ℕ) → first (step_checks s k j) ≡ 0 → Inv (with_begun (amend k (advance j) l.begun) l) (stepping s k j)
      executed_it k j h =
          let p = all_passed (step_checks s k j) h in
          from_kept (amend k (advance j) l.begun) (stepping s k j) (stepped (Agrees unpack) j s l.readings l.begun k (below_begun k p.1.0) (omega (arith, ltb-true j (length s.replicas) (not-false (ltb j (length s.replicas)) p.0), i.rep.replicas)) (i.rep, i.good) (not-false (waits (course s k) j) p.1.1.0) p.1.1.1.0)

      -- a read at the replica chosen, whatever it gave, if that agrees with the row found
      read_it : (k t r : ℕ) (g : Gave V K) → Agrees unpack g (found s (unwrap_or (chosen s k t) 0) t r) → first (read_checks s k t r) ≡ 0 → Inv (with_reading k t r g l) s
      read_it k t r g a h =
          let p = all_passed (read_checks s k t r) h in
          let least = chosen_right s k t (one_chosen s k t r h) in
          record {
            rep = i.rep;
            good = (read_at (Agrees unpack) s (unwrap_or (chosen s k t) 0) t r g a l.begun k (below_begun k p.0) i.rep (omega (arith, least.within, i.rep.replicas)) (ltb-true t 8 (not-false (ltb t 8) p.1.1.0)) (ltb-true r 64 (not-false (ltb r 64) p.1.1.1.0)) p.1.0 p.1.1.1.1.1.0 (not-false (declares (mode (course s k) t)) p.1.1.1.1.0) least.fit, i.good);
          }

      row_read : (k t r : ℕ) → Inv (note pack (Request.Call (Call.Read k t r)) (reply pack unpack s (Request.Call (Call.Read k t r))) l) s
      row_read k t r = go (eqb (first (read_checks s k t r)) 0) refl
        where
          x : Row × ℕ
          x = (found s (unwrap_or (chosen s k t) 0) t r, unwrap_or (chosen s k t) 0)

          go : (b : Bool) → eqb (first (read_checks s k t r)) 0 ≡ b → Inv (elim (option_map (λ y. Outcome.Found y.0 y.1) (cond b (Some x) None)) [ None ↦ l | Some y ↦ enter pack (Request.Call (Call.Read k t r)) y l ]) s
          go true e = read_it k t r (row x.0) refl (eqb-true (first (read_checks s k t r)) 0 e)
          go false e = i

      value_read : (k t r : ℕ) (kind : K) → Inv (note pack (Request.ReadAs k t r kind) (reply pack unpack s (Request.ReadAs k t r kind)) l) s
      value_read k t r kind = go (eqb (first (read_checks s k t r)) 0) refl
        where
          x : Row × ℕ
          x = (found s (unwrap_or (chosen s k t) 0) t r, unwrap_or (chosen s k t) 0)

          unpacked : first (read_checks s k t r) ≡ 0 → (v : Option V) → unpack kind x.0 ≡ v → Inv (elim (option_map {T = V × ℕ} (λ y. Outcome.Value y.0 y.1) (and_then (value_reply v) (λ y. (0, Some (y, x.1)))).1) [ None ↦ l | Some y ↦ enter pack (Request.ReadAs k t r kind) y l ]) s
          unpacked h None e = i
          unpacked h (Some v) e = read_it k t r (value kind v) e h

          go : (b : Bool) → eqb (first (read_checks s k t r)) 0 ≡ b → Inv (elim (option_map {T = V × ℕ} (λ y. Outcome.Value y.0 y.1) (and_then (first (read_checks s k t r), cond b (Some x) None) (λ y. and_then (value_reply (unpack kind y.0)) (λ v. (0, Some (v, y.1))))).1) [ None ↦ l | Some y ↦ enter pack (Request.ReadAs k t r kind) y l ]) s
          go true e = unpacked (eqb-true (first (read_checks s k t r)) 0 e) (unpack kind x.0) refl
          go false e = i

      pub requested : (q : Request V K) → Inv (note pack q (reply pack unpack s q) l) (after pack unpack s q)
      requested (Request.Call (Call.Begin modes)) = by_checks (first (begin_checks s modes)) s.counts.begun (λ m. Outcome.Begun m) (Request.Call (Call.Begin modes)) l s (beginning_after s modes) i (λ h. began modes)
      requested (Request.Call (Call.Write k t r v c)) = by_checks (first (write_checks s k t r c)) tt (λ x. Outcome.Accepted) (Request.Call (Call.Write k t r v c)) l s (asking s k (Operation.Write t r v c)) i (wrote k t r v c)
      requested (Request.Call (Call.Read k t r)) = row_read k t r
      requested (Request.Call (Call.Release k t)) = by_checks (first (release_checks s k t)) tt (λ x. Outcome.Accepted) (Request.Call (Call.Release k t)) l s (asking s k (Operation.Release t)) i (released_it k t)
      requested (Request.Call (Call.Commit k)) = by_checks (first (commit_checks s k)) tt (λ x. Outcome.Accepted) (Request.Call (Call.Commit k)) l s (asking s k Operation.Commit) i (committed k)
      requested (Request.Call (Call.Abort k)) = by_checks (first (abort_checks s k)) tt (λ x. Outcome.Accepted) (Request.Call (Call.Abort k)) l s (asking s k Operation.Abort) i (aborted_it k)
      requested (Request.Call (Call.Step k j)) = by_checks (first (step_checks s k j)) tt (λ x. Outcome.Accepted) (Request.Call (Call.Step k j)) l s (stepping s k j) i (executed_it k j)
      requested (Request.WriteAs k t r v c) = by_checks (first (write_checks s k t r c)) tt (λ x. Outcome.Accepted) (Request.WriteAs k t r v c) l s (asking s k (Operation.Write t r (pack v) c)) i (wrote k t r (pack v) c)
      requested (Request.ReadAs k t r kind) = value_read k t r kind

    pub every_run : (qs : List (Request V K)) (l : Ledger (Gave V K)) (s : State) → Inv l s → Inv (ledger pack (answered pack unpack s qs) l) (final pack unpack s qs)
    every_run [] l s i = i
    every_run (q ∷ qs) l s i = every_run qs (note pack q (reply pack unpack s q) l) (after pack unpack s q) (requested l s i q)

    pub first_state : length o ≡ 512 → Inv nothing (start n o)
    first_state len =
        record {
          rep = record { valid = tt; replicas = length-replicate n first_replica; begun = refl; next = refl; version = λ j h. ap (λ z. z.version) (each j h); sized = λ j h. ap (λ z. length z.rows) (each j h) ∙ len; rows = λ j t r h ht hr. ap (λ z. get_or z.rows (place t r) blank) (each j h); oldest_first = record { below = tt; rising = tt }; known = tt };
          good = tt;
        }
      where
        first_replica : Replica
        first_replica = record { rows = o; version = tables (λ t. 0) }

        each : (j : ℕ) → j < n → replica (start n o) j ≡ first_replica
        each j h = get_or-replicate n j first_replica (record { rows = []; version = [] }) h

  -- a step of a transaction of which an operation waits is refused only by 17
  waits_too : (s : State) (ns : List Course) (e : Course) (earlier : List Course) → Represents o n (ns ++ (e ∷ earlier)) s → (j : ℕ) → j < n → waits e j ≡ true → waits (course s (length earlier)) j ≡ true
  waits_too s ns e earlier p j h w = go (known_at o n s.unfinished ns e earlier p.known)
    where
      go : Tied o n (find (length earlier) s.unfinished) e earlier → waits (find (length earlier) s.unfinished).course j ≡ true
      go (inl k) = ap (λ c. waits c j) k.course ∙ w
      go (inr k) =
          let t = and_parts (ended e.asked) (not (some_below n (waits e))) k.1 in
          absurd (true≢false (sym w ∙ below_none (waits e) n j (not-true (some_below n (waits e)) t.1) h))

  pub step_is : (s : State) (ns : List Course) (e : Course) (earlier : List Course) → Represents o n (ns ++ (e ∷ earlier)) s → (j : ℕ) → j < n → waits e j ≡ true → first (step_checks s (length earlier) j) ≡ cond (held_back j e earlier) 17 0
  step_is s ns e earlier p j h w =
      let wt = waits_too s ns e earlier p j h w in
      let c = course s (length earlier) in
      ap (λ b. cond (not b) 15 (cond (not (ltb (length earlier) s.counts.begun)) 6 (cond (not (waits c j)) 16 (cond (held s (length earlier) j) 17 0)))) (lt-ltb j (length s.replicas) (omega (arith, p.replicas)))
      ∙ ap (λ b. cond (not b) 6 (cond (not (waits c j)) 16 (cond (held s (length earlier) j) 17 0))) (lt-ltb (length earlier) s.counts.begun (omega (arith, p.begun, length-append ns (e ∷ earlier))))
      ∙ ap (λ b. cond (not b) 16 (cond (held s (length earlier) j) 17 0)) wt
      ∙ ap (λ b. cond b 17 0) (held_right o n ns e earlier s p j h wt)

  exactly : (m : ℕ) (b : Bool) → m ≡ cond b 17 0 → (m ≡ 17) ↔ (b ≡ true)
  exactly m true e = (λ q. refl, λ q. e)
  exactly m false e = (λ q. absurd (differ (sym e ∙ q)), λ q. absurd (false≢true q))
    where
      differ : ◌≡◌ {A = ℕ} 0 17 → ⊥
      differ z = omega arith

  step_right : (cs : List Course) (s : State) → Represents o n cs s → (k j : ℕ) → j < n → HeldBackRightly j (first (step_checks s k j)) (from k cs)
  step_right cs s p k j h = go (cases_lt k (length cs))
    where
      go : (k < length cs) ⊎ (length cs ≤ k) → HeldBackRightly j (first (step_checks s k j)) (from k cs)
      go (inl b) =
          split (λ m ds. Represents o n ds s → HeldBackRightly j (first (step_checks s m j)) (from m ds)) (λ ns e earlier q.
          subst (HeldBackRightly j (first (step_checks s (length earlier) j))) (sym (from_split ns e earlier)) (λ w. exactly (first (step_checks s (length earlier) j)) (held_back j e earlier) (step_is s ns e earlier q j h w))) cs k b p
      go (inr b) = subst (HeldBackRightly j (first (step_checks s k j))) (sym (from_past k cs b)) tt

  module _ {V K : Type 0} (pack : V → Row) (unpack : K → Row → Option V) where
    every_step : (qs : List (Request V K)) (l : Ledger (Gave V K)) (s : State) → Inv pack unpack l s → (before behind : History V K) (k j : ℕ) (a : Answer V) → answered pack unpack s qs ≡ before ++ ((Request.Call (Call.Step k j), a) ∷ behind) → j < n → HeldBackRightly j a.0 (from k (ledger pack before l).begun)
    every_step [] l s i [] behind k j a e h = absurd (no_more e)
      where
        no_more : ◌≡◌ {A = History V K} [] ((Request.Call (Call.Step k j), a) ∷ behind) → ⊥
        no_more e = omega (arith, ap length e)
    every_step [] l s i (b ∷ before) behind k j a e h = absurd (no_more e)
      where
        no_more : ◌≡◌ {A = History V K} [] (b ∷ (before ++ ((Request.Call (Call.Step k j), a) ∷ behind))) → ⊥
        no_more e = omega (arith, ap length e)
    every_step (q ∷ qs) l s i [] behind k j a e h =
        let same : ◌≡◌ {A = Request V K × Answer V} (q, reply pack unpack s q) (Request.Call (Call.Step k j), a) = cc in
        let is : reply pack unpack s (Request.Call (Call.Step k j)) ≡ a = ap (reply pack unpack s) (sym (ap (λ x. x.0) same)) ∙ ap (λ x. x.1) same in
        subst (λ x. HeldBackRightly j x.0 (from k l.begun)) is (step_right l.begun s i.rep k j h)
    every_step (q ∷ qs) l s i (b ∷ before) behind k j a e h =
        let same : ◌≡◌ {A = Request V K × Answer V} (q, reply pack unpack s q) b = cc in
        let rest : answered pack unpack (after pack unpack s q) qs ≡ before ++ ((Request.Call (Call.Step k j), a) ∷ behind) = cc in
        subst (λ x. HeldBackRightly j a.0 (from k (ledger pack before (note pack x.0 x.1 l)).begun)) same (every_step qs (note pack q (reply pack unpack s q) l) (after pack unpack s q) (requested pack unpack l s i q) before behind k j a rest h)

    -- a replica at which nothing waits
    pub settled : length o ≡ 512 → (l : Ledger (Gave V K)) (s : State) → Inv pack unpack l s → (j : ℕ) → j < n → NothingWaits j l.begun → catalogue_of (rows_of s.replicas) j ≡ serial o l.begun
    settled len l s i j h w =
        rows_at s.replicas j ∙ same_rows (replica s j).rows (serial o l.begun) (i.rep.sized j h) (length_serial o l.begun ∙ len) (λ t r ht hr. i.rep.rows j t r h ht hr ∙ caught_up j t r (get_or o (place t r) blank) l.begun w ∙ sym (serial_cell t r ht hr o len l.begun i.rep.valid))

pub serial_order : {V K : Type 0} (pack : V → Row) (unpack : K → Row → Option V) → SerialOrder pack unpack
serial_order pack unpack o n qs len =
    let i = every_run o n pack unpack qs nothing (start n o) (first_state o n pack unpack len) in
    let l = ledger pack (answered pack unpack (start n o) qs) nothing in
    let s = final pack unpack (start n o) qs in
    let many : length (rows_of s.replicas) ≡ n = rows_many s.replicas ∙ i.rep.replicas in
    record {
      reads = All-weaker (Good o n (Agrees unpack) l.begun) (λ rd. Finds (Agrees unpack) o rd (from rd.number l.begun)) (λ rd g. good_right o n (Agrees unpack) len rd l.begun i.rep.valid g) l.readings i.good;
      rows = λ j h w. settled o n pack unpack len l s i j (omega (arith, many)) w;
      steps = λ before behind k j a e h. every_step o n pack unpack qs nothing (start n o) (first_state o n pack unpack len) before behind k j a e (omega (arith, many));
    }
