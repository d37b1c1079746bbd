-- Decimal numbers.
use Rattle.std.specs.Prelude.{ℕ, ◌+◌, ◌-◌, ◌*◌, Bool, true, false, cond, not, ◌&&◌, List, [], ◌∷◌, Some, None, Option, ◌==◌, nat_le, nat_lt}

-- The digits 0 to 9 are the bytes 48 to 57.
abbrev pub is_digit : ℕ → Bool
is_digit b = nat_le 48 b && nat_le b 57

abbrev pub all_digits : List ℕ → Bool
all_digits [] = true
all_digits (b ∷ bs) = is_digit b && all_digits bs

-- The value of digits that stand behind others whose value is n.
abbrev pub value_behind : ℕ → List ℕ → ℕ
value_behind n [] = n
value_behind n (b ∷ bs) = value_behind (n * 10 + (b - 48)) bs

-- At least one byte, and the first of several is not 0.
abbrev pub starts_well : List ℕ → Bool
starts_well [] = false
starts_well (b ∷ []) = true
starts_well (b ∷ c ∷ bs) = not (b == 48)

-- The value of the digits, where it is below the bound.
abbrev pub digits_behind : ℕ → ℕ → List ℕ → Option ℕ
digits_behind bound n bs = cond (all_digits bs && nat_lt (value_behind n bs) bound) (Some (value_behind n bs)) None

-- A number below the bound: digits without a leading zero.
abbrev pub number_below : ℕ → List ℕ → Option ℕ
number_below bound bs = cond (starts_well bs) (digits_behind bound 0 bs) None
