-- Families of kinds of row: how the values of two families pack and unpack as one family.
use Rattle.std.specs.Prelude.{Option}
use Rattle.std.specs.Option.{option_map}
use Rattle.catalogue.specs.declared.row.Row.{Row}
use Rattle.versioning.specs.declared.family.pair.Either.{Either}

-- What holds of every value holds of either's; its kind is its own family's.
abbrev pub EitherSound : {V W : Type 0} → (V → Type 0) → (W → Type 0) → Either V W → Type 0
EitherSound sound other (Either.First v) = sound v
EitherSound sound other (Either.Second w) = other w

abbrev pub either_kind : {V W K L : Type 0} → (V → K) → (W → L) → Either V W → Either K L
either_kind kind other (Either.First v) = Either.First (kind v)
either_kind kind other (Either.Second w) = Either.Second (other w)

-- A value of either packs as it does in its own family.
abbrev pub either_packed : {V W : Type 0} → (V → Row) → (W → Row) → Either V W → Row
either_packed pack other (Either.First v) = pack v
either_packed pack other (Either.Second w) = other w

-- A row unpacks to a value of the family whose kind is asked for.
abbrev pub either_unpacked : {V W K L : Type 0} → (K → Row → Option V) → (L → Row → Option W) → Either K L → Row → Option (Either V W)
either_unpacked unpack other (Either.First kind) r = option_map (λ v. Either.First v) (unpack kind r)
either_unpacked unpack other (Either.Second kind) r = option_map (λ w. Either.Second w) (other kind r)
