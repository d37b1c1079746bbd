-- The refusals' numbers, and what an answer tells: its number and its value.
use Rattle.std.specs.Prelude.{ℕ, Bool, cond, List, [], ◌∷◌, Some, None, Ok, Err, Option, Result, ◌==◌}
use Rattle.catalogue.specs.declared.refusal.Refusal.{Refusal}

-- Each refusal has one number; 0 is none of them.
abbrev pub number : Refusal → ℕ
number Refusal.TableOutOfRange = 1
number Refusal.TableRepeated = 2
number Refusal.NothingDeclared = 3
number Refusal.TooManyUnfinished = 4
number Refusal.TooManyBegun = 5
number Refusal.UnknownTransaction = 6
number Refusal.NotOpen = 7
number Refusal.RowOutOfRange = 8
number Refusal.ClassOutOfRange = 9
number Refusal.NotDeclared = 10
number Refusal.AlreadyReleased = 11
number Refusal.TooManyWrites = 12
number Refusal.NoReplicaQualifies = 13
number Refusal.PastRecall = 14
number Refusal.UnknownReplica = 15
number Refusal.NothingWaits = 16
number Refusal.HeldBack = 17
number Refusal.NoValue = 18
number Refusal.NotAPermutation = 19
number Refusal.MemoryTooShort = 20
number Refusal.BadNames = 21
number Refusal.BadLine = 22
number Refusal.UnknownCall = 23
number Refusal.BadField = 24
number Refusal.SheetTooLong = 25

-- What an answer tells: 0 and its value where the call is accepted, else the refusal's number alone.
abbrev pub told : {T : Type 0} → Result T Refusal → ℕ × Option T
told (Ok x) = (0, Some x)
told (Err r) = (number r, None)

-- The same, of what is seen of the value.
abbrev pub told_as : {T U : Type 0} → (T → U) → Result T Refusal → ℕ × Option U
told_as seen (Ok x) = (0, Some (seen x))
told_as seen (Err r) = (number r, None)

-- The checks of a call, in their order: the number of the first whose test holds, 0 where none does.
abbrev pub first : List (Bool × Refusal) → ℕ
first [] = 0
first (c ∷ cs) = cond c.0 (number c.1) (first cs)

-- The answer to a call: its value where no check refuses it, else the number of the refusal alone.
abbrev pub unless_refused : {T : Type 0} → ℕ → T → ℕ × Option T
unless_refused n x = (n, cond (n == 0) (Some x) None)
