-- The value of digits, digit by digit.
use Rattle.std.proofs.Common.{◌≡◌, ℕ, ◌+◌, ◌-◌, ◌*◌, ◌<◌, ◌≤◌, Bool, true, false, cond, ◌&&◌, ltb, List, [], ◌∷◌, length, get_or, drop, Some, None, sym, refl, ap, ◌∙◌, arith}
use Rattle.std.proofs.lemmas.List.{drop_more}
use Rattle.std.proofs.lemmas.Bool.{ltb-false, le-ltb, and_right}
use Rattle.field.specs.Decimals.{is_digit, all_digits, value_behind, digits_behind}

-- more digits make no smaller value
grows : (n : ℕ) (bs : List ℕ) → n ≤ value_behind n bs
grows n [] = omega arith
grows n (b ∷ bs) = let more = grows (n * 10 + (b - 48)) bs in omega arith

off : (digit fits : Bool) (bound n : ℕ) (bs : List ℕ) → ltb n bound ≡ fits → None ≡ cond ((digit && true) && fits) (Some n) None
    → None ≡ cond ((digit && all_digits bs) && ltb (value_behind n bs) bound) (Some (value_behind n bs)) None
off true true bound n bs t e = cc
off true false bound n bs t e =
    let large : ltb (value_behind n bs) bound ≡ false = le-ltb (value_behind n bs) bound (omega (arith, grows n bs, ltb-false n bound t)) in
    let none = and_right (all_digits bs) (ltb (value_behind n bs) bound) large in
    sym (ap (λ (v : Bool). cond v (Some (value_behind n bs)) None) none)
off false fits bound n bs t e = refl

module _ (bound n : ℕ) (text : List ℕ) (i : ℕ) (l : i < length text) where
  abbrev b : ℕ
  b = get_or text i 0

  pub digit_refused : None ≡ digits_behind bound n (b ∷ []) → None ≡ digits_behind bound n (drop i text)
  digit_refused e =
      off (is_digit b) (ltb (n * 10 + (b - 48)) bound) bound (n * 10 + (b - 48)) (drop (i + 1) text) refl e
      ∙ sym (ap (digits_behind bound n) (drop_more text i 0 l))
