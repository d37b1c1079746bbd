-- The checks of a call: where none refuses, each test fails.
use Rattle.std.proofs.Common.{◌≡◌, ◌≤◌, Bool, true, false, cond, List, [], ◌∷◌, ◌++◌, refl, ap, ◌∙◌, arith, lit≤}
use Rattle.std.specs.List.{AllByRecursion}
use Rattle.catalogue.specs.declared.refusal.Refusal.{Refusal}
use Rattle.catalogue.specs.Refusals.{number, first}

number_positive : (r : Refusal) → 1 ≤ number r
number_positive Refusal.TableOutOfRange = lit≤ tt
number_positive Refusal.TableRepeated = lit≤ tt
number_positive Refusal.NothingDeclared = lit≤ tt
number_positive Refusal.TooManyUnfinished = lit≤ tt
number_positive Refusal.TooManyBegun = lit≤ tt
number_positive Refusal.UnknownTransaction = lit≤ tt
number_positive Refusal.NotOpen = lit≤ tt
number_positive Refusal.RowOutOfRange = lit≤ tt
number_positive Refusal.ClassOutOfRange = lit≤ tt
number_positive Refusal.NotDeclared = lit≤ tt
number_positive Refusal.AlreadyReleased = lit≤ tt
number_positive Refusal.TooManyWrites = lit≤ tt
number_positive Refusal.NoReplicaQualifies = lit≤ tt
number_positive Refusal.PastRecall = lit≤ tt
number_positive Refusal.UnknownReplica = lit≤ tt
number_positive Refusal.NothingWaits = lit≤ tt
number_positive Refusal.HeldBack = lit≤ tt
number_positive Refusal.NoValue = lit≤ tt
number_positive Refusal.NotAPermutation = lit≤ tt
number_positive Refusal.MemoryTooShort = lit≤ tt
number_positive Refusal.BadNames = lit≤ tt
number_positive Refusal.BadLine = lit≤ tt
number_positive Refusal.UnknownCall = lit≤ tt
number_positive Refusal.BadField = lit≤ tt
number_positive Refusal.SheetTooLong = lit≤ tt

pub all_passed : (cs : List (Bool × Refusal)) → first cs ≡ 0 → AllByRecursion (λ c. c.0 ≡ false) cs
all_passed [] h = tt
all_passed (c ∷ cs) h = go (all_passed cs) c.0 refl h
  where
    nonzero : number c.1 ≡ 0 → ⊥
    nonzero e = omega (arith, number_positive c.1)

    go : (first cs ≡ 0 → AllByRecursion (λ d. d.0 ≡ false) cs) → (b : Bool) → c.0 ≡ b → cond b (number c.1) (first cs) ≡ 0 → (c.0 ≡ false) × AllByRecursion (λ d. d.0 ≡ false) cs
    go rest true e h = absurd (nonzero h)
    go rest false e h = (e, rest h)

-- checks that all pass leave the answer to those behind them
pub first_behind : (cs ds : List (Bool × Refusal)) → AllByRecursion (λ c. c.0 ≡ false) cs → first (cs ++ ds) ≡ first ds
first_behind [] ds a = refl
first_behind (c ∷ cs) ds a = ap (λ b. cond b (number c.1) (first (cs ++ ds))) a.0 ∙ first_behind cs ds a.1
