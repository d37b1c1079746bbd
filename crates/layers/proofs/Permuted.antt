-- Eight numbers of which each of 0 to 7 stands just once.
use Rattle.std.proofs.Common.{◌≡◌, ℕ, ◌<◌, ◌≤◌, Bool, true, cond, eqb, ltb, List, length, get_or, take, length-take, sym, refl, ap, ◌∙◌, ⊎_elim, subst, arith}
use Rattle.std.proofs.lemmas.Bool.{and_parts, cases_lt, eq-eqb, eqb-true, ltb-true}
use Rattle.std.proofs.lemmas.List.{get_or-take}
use Rattle.std.proofs.lemmas.List.FromFn.{length-range_with_len, get_or-range_with_len}
use Rattle.std.proofs.lemmas.List.Sums.{AllPass-from_list_all, get_or-le-sum_by, sum_by-take-drop, sum_by-drop_more}
use Rattle.std.specs.List.{range_with_len}
use Rattle.layers.specs.Numbers.{count, in_order, permutation}

-- a number that stands at two places is counted twice
twice : (n : ℕ) (xs : List ℕ) (i j : ℕ) → i < j → j < length xs → get_or xs i 0 ≡ n → get_or xs j 0 ≡ n → 2 ≤ count n xs
twice n xs i j before l e f =
    let one = λ (x : ℕ). cond {A = ℕ} (eqb x n) 1 0 in
    let first : one (get_or (take j xs) i 0) ≡ 1 = ap (λ (b : Bool). cond {A = ℕ} b 1 0) (eq-eqb _ n (get_or-take j xs i 0 before ∙ e)) in
    let inside : i < length (take j xs) = omega (arith, length-take j xs) in
    let second : one (get_or xs j 0) ≡ 1 = ap (λ (b : Bool). cond {A = ℕ} b 1 0) (eq-eqb _ n f) in
    omega (arith, first, second, get_or-le-sum_by one (take j xs) i 0 inside, sum_by-drop_more one xs j 0 l, sum_by-take-drop one xs j)

module _ (ns : List ℕ) (once : permutation ns ≡ true) (eight : length ns ≡ 8) where
  at : (t : ℕ) → t < 8 → (ltb (get_or ns t 0) 8 ≡ true) × (eqb (count t ns) 1 ≡ true)
  at t l =
      let each : in_order ns (get_or (range_with_len 0 8) t 0) ≡ true = AllPass-from_list_all (in_order ns) (range_with_len 0 8) once t 0 (omega (arith, length-range_with_len 0 8)) in
      let number : get_or (range_with_len 0 8) t 0 ≡ t = get_or-range_with_len 0 8 t 0 l ∙ (omega arith) in
      and_parts _ _ (subst (λ (k : ℕ). in_order ns k ≡ true) number each)

  pub small : (t : ℕ) → t < 8 → get_or ns t 0 < 8
  small t l = ltb-true (get_or ns t 0) 8 (at t l).0

  single : (t : ℕ) → t < 8 → count t ns ≡ 1
  single t l = eqb-true (count t ns) 1 (at t l).1

  pub apart : (a b : ℕ) → a < 8 → b < 8 → get_or ns a 0 ≡ get_or ns b 0 → a ≡ b
  apart a b la lb e =
      ⊎_elim (λ (l : a < b). absurd (no_two a b l lb e)) (λ (h : b ≤ a). ⊎_elim (λ (l : b < a). absurd (no_two b a l la (sym e))) (λ (k : a ≤ b). omega arith) (cases_lt b a)) (cases_lt a b)
    where
      no_two : (i j : ℕ) → i < j → j < 8 → get_or ns i 0 ≡ get_or ns j 0 → ⊥
      no_two i j l lj same =
          let n = get_or ns i 0 in
          omega (arith, twice n ns i j l (omega arith) refl (sym same), single n (small i (omega arith)))
