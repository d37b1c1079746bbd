-- No two refusals have one number.
use Rattle.std.proofs.Common.{◌≡◌, ℕ, [], ◌∷◌, get_or, sym, refl, ap, ◌∙◌}
use Rattle.catalogue.specs.declared.refusal.Refusal.{Refusal}
use Rattle.catalogue.specs.declared.refusal.Refusal.TheVariants.{TableOutOfRange, TableRepeated, NothingDeclared, TooManyUnfinished, TooManyBegun, UnknownTransaction, NotOpen, RowOutOfRange, ClassOutOfRange, NotDeclared, AlreadyReleased, TooManyWrites, NoReplicaQualifies, PastRecall, UnknownReplica, NothingWaits, HeldBack, NoValue, NotAPermutation, MemoryTooShort, BadNames, BadLine, UnknownCall, BadField, SheetTooLong}
use Rattle.catalogue.specs.Refusals.{number}

-- the refusal with the number n; the first stands at 0 too
abbrev named : ℕ → Refusal
named n = get_or (TableOutOfRange ∷ TableOutOfRange ∷ TableRepeated ∷ NothingDeclared ∷ TooManyUnfinished ∷ TooManyBegun ∷ UnknownTransaction ∷ NotOpen ∷ RowOutOfRange ∷ ClassOutOfRange ∷ NotDeclared ∷ AlreadyReleased ∷ TooManyWrites ∷ NoReplicaQualifies ∷ PastRecall ∷ UnknownReplica ∷ NothingWaits ∷ HeldBack ∷ NoValue ∷ NotAPermutation ∷ MemoryTooShort ∷ BadNames ∷ BadLine ∷ UnknownCall ∷ BadField ∷ SheetTooLong ∷ []) n TableOutOfRange

named_number : (r : Refusal) → named (number r) ≡ r
named_number TableOutOfRange = refl
named_number TableRepeated = refl
named_number NothingDeclared = refl
named_number TooManyUnfinished = refl
named_number TooManyBegun = refl
named_number UnknownTransaction = refl
named_number NotOpen = refl
named_number RowOutOfRange = refl
named_number ClassOutOfRange = refl
named_number NotDeclared = refl
named_number AlreadyReleased = refl
named_number TooManyWrites = refl
named_number NoReplicaQualifies = refl
named_number PastRecall = refl
named_number UnknownReplica = refl
named_number NothingWaits = refl
named_number HeldBack = refl
named_number NoValue = refl
named_number NotAPermutation = refl
named_number MemoryTooShort = refl
named_number BadNames = refl
named_number BadLine = refl
named_number UnknownCall = refl
named_number BadField = refl
named_number SheetTooLong = refl

pub number_once : (a b : Refusal) → number a ≡ number b → a ≡ b
number_once a b e = sym (named_number a) ∙ ap named e ∙ named_number b
