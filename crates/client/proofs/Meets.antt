-- Which refusals a good ticket can meet.
use Rattle.std.proofs.Common.{◌≡◌, ℕ, Bool, true, false, cond, not, eqb, List, [], ◌∷◌, ◌++◌, is_some, Some, None, Option, sym, refl, ap, ◌∙◌, subst, inl, inr}
use Rattle.std.specs.List.{AllByRecursion}
use Rattle.std.proofs.lemmas.Bool.{lt-ltb, eqb-false, cond_both}
use Rattle.catalogue.specs.declared.refusal.Refusal.{Refusal}
use Rattle.catalogue.specs.declared.row.Row.{Row}
use Rattle.catalogue.specs.Refusals.{number, first}
use Rattle.catalogue.specs.Kinds.{value_reply}
use Rattle.catalogue.specs.Rows.{place_checks}
use Rattle.versioning.specs.Words.{ended}
use Rattle.versioning.specs.Machine.{State, course, known, still_open, declared, unreleased, past_recall, chosen, and_then, read_reply, read_as_reply, abort_reply}
use Rattle.client.specs.Tickets.{Good, CanMeet, DoneOrPastRecall}

-- the first two checks pass, so that the others decide
by_others : (s : State) (k : ℕ) (others : List (Bool × Refusal)) → Good s k → first (known s k ∷ still_open (course s k) ∷ others) ≡ first others
by_others s k others good =
    ap (λ b. cond (not b) 6 (cond (ended (course s k).asked) 7 (first others))) (lt-ltb k s.counts.begun good.begun)
    ∙ ap (λ b. cond b 7 (first others)) good.still_open

-- an abort is accepted, or the transaction is past recall
pub abort_meets : (s : State) (k : ℕ) → Good s k → DoneOrPastRecall (abort_reply s k).0
abort_meets s k good =
    subst DoneOrPastRecall (sym (by_others s k ((past_recall (course s k), Refusal.PastRecall) ∷ []) good)) (go (past_recall (course s k)))
  where
    go : (b : Bool) → DoneOrPastRecall (first ((b, Refusal.PastRecall) ∷ []))
    go true = inr refl
    go false = inl refl

-- a number that is neither of the two
meet : (n : ℕ) → eqb n 6 ≡ false → eqb n 7 ≡ false → CanMeet n
meet n u o = record { known = eqb-false n 6 u; still_open = eqb-false n 7 o }

-- the first refusal of checks none of which gives either of the two
any_meets : (checks : List (Bool × Refusal)) → AllByRecursion (λ c. CanMeet (number c.1)) checks → CanMeet (first checks)
any_meets [] a = meet 0 refl refl
any_meets (c ∷ cs) a = cond_both c.0 (number c.1) (first cs) CanMeet (λ e. a.0) (λ e. any_meets cs a.1)

read_meets : (s : State) (k t r : ℕ) → Good s k → CanMeet (read_reply s k t r).0
read_meets s k t r good =
    let others : List (Bool × Refusal) = place_checks t r ++ (declared (course s k) t ∷ unreleased (course s k) t ∷ (not (is_some (chosen s k t)), Refusal.NoReplicaQualifies) ∷ []) in
    subst CanMeet (sym (by_others s k others good)) (any_meets others (meet 1 refl refl, (meet 8 refl refl, (meet 10 refl refl, (meet 11 refl refl, (meet 13 refl refl, tt))))))

-- what a typed read adds is neither
module _ {V : Type 0} (unpack : Row → Option V) where
  valued : (o : Option V) (j : ℕ) → CanMeet (and_then {B = V × ℕ} (value_reply o) (λ v. (0, Some (v, j)))).0
  valued None j = meet 18 refl refl
  valued (Some v) j = meet 0 refl refl

  pub typed_meets : (s : State) (k t r : ℕ) → Good s k → CanMeet (read_as_reply unpack s k t r).0
  typed_meets s k t r good = go (read_reply s k t r).0 (read_reply s k t r).1 (read_meets s k t r good)
    where
      go : (n : ℕ) (o : Option (Row × ℕ)) → CanMeet n → CanMeet (and_then {B = V × ℕ} (n, o) (λ x. and_then (value_reply (unpack x.0)) (λ v. (0, Some (v, x.1))))).0
      go n None c = c
      go n (Some x) c = valued (unpack x.0) x.1
