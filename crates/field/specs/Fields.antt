-- What a field of a line is, and what it says where a call asks something of it.
use Rattle.std.specs.Prelude.{ℕ, ◌^◌, cond, List, [], ◌∷◌, Some, None, Option, nat_lt}
use Rattle.sequencing.specs.declared.mode.Mode.{Mode}
use Rattle.field.specs.declared.field.Field.{Field}
use Rattle.field.specs.Decimals.{number_below}
use Rattle.field.specs.Letters.{declaration_of}

-- A field is empty, a number or a word; the last two have the bytes that they were cut from.
pub data Content : Type 0 where
  empty : Content
  number : ℕ → List ℕ → Content
  word : List ℕ → Content

abbrev pub bytes_of : Content → List ℕ
bytes_of empty = []
bytes_of (number n bs) = bs
bytes_of (word bs) = bs

-- What a field of the program holds.
abbrev pub shown : Field → Content
shown Field.Empty = empty
shown (Field.Number n text) = number n text.now
shown (Field.Word text) = word text.now

-- Bytes that are a number below 2^64 make a number, other bytes a word.
abbrev pub as_read : Option ℕ → List ℕ → Content
as_read (Some n) bs = number n bs
as_read None bs = word bs

abbrev pub content_of : List ℕ → Content
content_of [] = empty
content_of (b ∷ bs) = as_read (number_below (2 ^ 64) (b ∷ bs)) (b ∷ bs)

-- What a field says that is to be empty, a number below 2^32, a number below 2^64, or a declaration.
abbrev pub nothing_in : Content → Option (Unit {0})
nothing_in empty = Some tt
nothing_in (number n bs) = None
nothing_in (word bs) = None

abbrev pub narrow_in : Content → Option ℕ
narrow_in empty = None
narrow_in (number n bs) = cond (nat_lt n (2 ^ 32)) (Some n) None
narrow_in (word bs) = None

abbrev pub wide_in : Content → Option ℕ
wide_in empty = None
wide_in (number n bs) = Some n
wide_in (word bs) = None

abbrev pub modes_in : Content → Option (List Mode)
modes_in empty = None
modes_in (number n bs) = None
modes_in (word bs) = declaration_of bs
