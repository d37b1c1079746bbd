use Rattle.std.proofs.Common.{◌≡◌, ◌^◌, ◌<◌, drop}
use Rattle.field.specs.Decimals.{digits_behind}
use Rattle.field.proofs.decimal.all_digits.Given as goal

-- the digits left, behind the value so far, give the answer
abbrev pub invariant-loop-digit : goal.invariant-loop-digit
invariant-loop-digit l = (l.value < 2 ^ 64) × (digits_behind (2 ^ 64) l.value (drop l.digit-index l.text) ≡ digits_behind (2 ^ 64) 0 l.text)
