-- The replica that answers a read, and what the read answers.
use Rattle.std.proofs.Common.{◌≡◌, ℕ, ◌<◌, Bool, true, false, cond, not, ◌&&◌, eqb, ltb, List, [], ◌∷◌, ◌++◌, length, get_or, is_some, Some, None, vec_items, Option, unwrap_or, sym, refl, ap, ◌∙◌, true≢false, arith}
use Rattle.std.proofs.lemmas.Bool.{lt-ltb}
use Rattle.catalogue.specs.declared.row.Row.{Row}
use Rattle.catalogue.specs.declared.refusal.Refusal.{Refusal}
use Rattle.std.specs.Option.{ok_or}
use Rattle.catalogue.specs.Refusals.{number, first, unless_refused, told_as}
use Rattle.catalogue.specs.Replicated.{catalogue_of, replica_checks}
use Rattle.catalogue.specs.Rows.{blank, place}
use Rattle.sequencing.specs.Sequencer.{counts_of}
use Rattle.versioning.specs.Machine.{State, Replica, Transaction, better, load, qualifies_at, course, replica, transaction, chosen, may_read, reading_checks, read_checks, found, read_reply, and_then}
use Rattle.versioning.proofs.Checks.{all_passed, first_behind}
use Rattle.versioning.proofs.Chosen.{chosen_right, one_chosen}
use Rattle.cluster.specs.declared.cluster.Cluster.{Cluster}
use Rattle.cluster.specs.declared.transaction.Transaction.{Transaction as Held}
use Rattle.cluster.specs.Transactions.{transaction_of, transactions_of, may_read_reply, StandsAt}
use Rattle.cluster.specs.declared.replica_index.ReplicaIndex.{ReplicaIndex}
use Rattle.cluster.specs.View.{paired, state_of, fits, choice, fetched, number_of}
use Rattle.cluster.proofs.Answered.{accepted, refused, refused_too}
use Rattle.cluster.proofs.Paired.{paired_length, paired_at}
use Rattle.cluster.proofs.Standing.{many, shown_at}

-- one replica more, by whether it can answer and by the loads
module _ {R : Type 0} (catalogues : R → List (List Row)) (c : Cluster R) (x : Transaction) (t j : ℕ) (there : j < length (catalogues c.replicas)) where
  abbrev weight : ℕ → ℕ
  weight = load (state_of catalogues c)

  abbrev with_next : Option ℕ → Option ℕ
  with_next best = better (fits (state_of catalogues c) x t) weight j best

  fits_is : fits (state_of catalogues c) x t j ≡ qualifies_at x t j (get_or c.versions j [])
  fits_is = ap (λ (r : Replica). qualifies_at x t j r.version) (paired_at (catalogues c.replicas) c.versions j there)

  pub unfit : (best : Option ℕ) → false ≡ qualifies_at x t j (get_or c.versions j []) → best ≡ with_next best
  unfit None e = ap (λ (b : Bool). cond b (Some j) None) (e ∙ sym fits_is)
  unfit (Some i) e = ap (λ (b : Bool). cond (b && ltb (weight j) (weight i)) (Some j) (Some i)) (e ∙ sym fits_is)

  module _ (fit : true ≡ qualifies_at x t j (get_or c.versions j [])) where
    pub first_fit : (best : Option ℕ) → best ≡ None → Some j ≡ with_next best
    first_fit best is = ap (λ (b : Bool). cond b (Some j) None) (fit ∙ sym fits_is) ∙ ap with_next (sym is)

    pub lighter : (best : Option ℕ) (i : ℕ) → best ≡ Some i → true ≡ ltb (weight j) (weight i) → Some j ≡ with_next best
    lighter best i is l =
        ap (λ (b : Bool). cond b (Some j) (Some i)) l
        ∙ ap (λ (b : Bool). cond (b && ltb (weight j) (weight i)) (Some j) (Some i)) (fit ∙ sym fits_is)
        ∙ ap with_next (sym is)

-- checks of which one refuses decide alone
first_ahead : (cs ds : List (Bool × Refusal)) → eqb (first cs) 0 ≡ false → first (cs ++ ds) ≡ first cs
first_ahead [] ds h = absurd (true≢false h)
first_ahead (c ∷ cs) ds h = go c.0 h (first_ahead cs ds)
  where
    go : (b : Bool) → eqb (cond b (number c.1) (first cs)) 0 ≡ false → (eqb (first cs) 0 ≡ false → first (cs ++ ds) ≡ first cs) → cond b (number c.1) (first (cs ++ ds)) ≡ cond b (number c.1) (first cs)
    go true e f = refl
    go false e f = f e

-- the row fetched from the replica chosen
module _ (s : State) (cs : List (List Row)) (vs : List (List ℕ)) (pairs : s.replicas ≡ paired cs vs) (k t r j : ℕ) (passed : first (read_checks s k t r) ≡ 0) (chosen-one : j ≡ unwrap_or (chosen s k t) 0) where
  within : j < length cs
  within =
      omega (arith, chosen-one, (chosen_right s k t (one_chosen s k t r passed)).within, ap length pairs, paired_length cs vs)

  fetch_passes : first (replica_checks cs j t r) ≡ 0
  fetch_passes =
      let p = all_passed (read_checks s k t r) passed in
      first_behind (replica_checks cs j t r) [] (ap not (lt-ltb j (length cs) within), (p.1.1.0, (p.1.1.1.0, tt)))

  read_found : fetched cs t r j ≡ read_reply s k t r
  read_found =
      let here : replica s j ≡ record { rows = catalogue_of cs j; version = get_or vs j [] } = ap (λ (rs : List Replica). get_or rs j (record { rows = []; version = [] })) pairs ∙ paired_at cs vs j within in
      ap (λ a. and_then (unless_refused a (get_or (catalogue_of cs j) (place t r) blank)) (λ (x : Row). (0, Some (x, j)))) fetch_passes
      ∙ ap (λ (p : Replica). (0, Some (get_or p.rows (place t r) blank, j))) (sym here)
      ∙ ap (λ n. (0, Some (found s n t r, n))) chosen-one
      ∙ ap (λ a. unless_refused a (found s (unwrap_or (chosen s k t) 0) t r, unwrap_or (chosen s k t) 0)) (sym passed)

-- the checks of a read by the transaction k, which the cluster has at i, as x
module _ {R : Type 0} (catalogues : R → List (List Row)) (c : Cluster R) (k i t r : ℕ) (x : Held) (begun : k < (counts_of c.sequencer).begun) (at : StandsAt k i (transactions_of (vec_items c.unfinished))) (is : x ≡ get_or (vec_items c.unfinished) i x) where
  abbrev s : State
  s = state_of catalogues c

  abbrev u : Transaction
  u = transaction_of x

  there : transaction s k ≡ u
  there =
      at.found ∙ shown_at (vec_items c.unfinished) i x (omega (arith, at.within, many (vec_items c.unfinished))) is

  own_checks : first (reading_checks s k t r) ≡ first (may_read u.course t r)
  own_checks =
      ap (λ (b : Bool). cond (not b) 6 (first (may_read (course s k) t r))) (lt-ltb k s.counts.begun begun)
      ∙ ap (λ (v : Transaction). first (may_read v.course t r)) there

  chosen_is : chosen s k t ≡ choice s u t
  chosen_is = ap (λ (v : Transaction). choice s v t) there

  abbrev here : Row × ℕ
  here = (found s (unwrap_or (chosen s k t) 0) t r, unwrap_or (chosen s k t) 0)

  pub read_refused : (m : ℕ) → (m, None) ≡ may_read_reply u t r → (m, None) ≡ read_reply s k t r
  read_refused m e =
      let n = first (may_read u.course t r) in
      let no = ap (λ a. eqb a 0) own_checks ∙ (refused n tt m e).1 in
      let same = first_ahead (reading_checks s k t r) ((not (is_some (chosen s k t)), Refusal.NoReplicaQualifies) ∷ []) no ∙ own_checks in
      refused_too n m tt here e ∙ ap (λ a. unless_refused a here) (sym same)

  module _ (passed : (0, Some tt) ≡ may_read_reply u t r) where
    last_check : first (read_checks s k t r) ≡ cond (not (is_some (choice s u t))) 13 0
    last_check =
        let none : first (reading_checks s k t r) ≡ 0 = own_checks ∙ (accepted (first (may_read u.course t r)) tt tt passed).0 in
        first_behind (reading_checks s k t r) ((not (is_some (chosen s k t)), Refusal.NoReplicaQualifies) ∷ []) (all_passed (reading_checks s k t r) none)
        ∙ ap (λ (o : Option ℕ). cond (not (is_some o)) 13 0) chosen_is

    read_unqualified : None ≡ choice s u t → (13, None) ≡ read_reply s k t r
    read_unqualified e =
        let n : first (read_checks s k t r) ≡ 13 = last_check ∙ ap (λ (o : Option ℕ). cond (not (is_some o)) 13 0) (sym e) in
        ap (λ a. unless_refused a here) (sym n)

    read_chosen : (j : ℕ) → Some j ≡ choice s u t → fetched (catalogues c.replicas) t r j ≡ read_reply s k t r
    read_chosen j e =
        let n : first (read_checks s k t r) ≡ 0 = last_check ∙ ap (λ (o : Option ℕ). cond (not (is_some o)) 13 0) (sym e) in
        read_found s (catalogues c.replicas) c.versions refl k t r j n (ap (λ (o : Option ℕ). unwrap_or o 0) (e ∙ sym chosen_is))

    pub read_answered : (o : Option ReplicaIndex) → number_of o ≡ choice s u t → and_then (told_as (λ j. j.number) (ok_or o Refusal.NoReplicaQualifies)) (fetched (catalogues c.replicas) t r) ≡ read_reply s k t r
    read_answered None e = read_unqualified e
    read_answered (Some j) e = read_chosen j.number e
