-- A text's pieces.
use Rattle.std.proofs.Common.{◌≡◌, ℕ, ◌+◌, ◌<◌, ◌≤◌, Bool, eqb, ltb, List, [], ◌∷◌, length, take, drop, Option, Some, None, position, true, false, get_or, subst, sym, refl, arith}
use Rattle.std.proofs.lemmas.List.Splits.{slice_split_none, slice_split_first, length-slice_split}
use Rattle.std.proofs.lemmas.List.Sums.{fails_before_first, position_or_len_is}
use Rattle.std.proofs.lemmas.Bool.{cond_both, ltb-true, ltb-false}
use Rattle.std.specs.List.{slice_split, position_or_len}
use Rattle.field.specs.Pieces.{pieces}

-- the first mark, where there is one, ends the first piece
abbrev pub Cut : (ℕ → Bool) → List ℕ → Option ℕ → Type 0
Cut p xs None = slice_split p xs ≡ xs ∷ []
Cut p xs (Some i) = (slice_split p xs ≡ take i xs ∷ slice_split p (drop (i + 1) xs)) × (i < length xs)

pub cut_there : (p : ℕ → Bool) (xs : List ℕ) → Cut p xs (position p xs)
cut_there p xs =
    let at = position_or_len p xs in
    cond_both (ltb at (length xs)) (Some at) None (Cut p xs)
    (λ found. let l = ltb-true at (length xs) found in (slice_split_first p xs 0 l, l))
    (λ none. slice_split_none p xs (λ k d l. fails_before_first p xs k d (omega (arith, ltb-false at (length xs) none))))

-- where no mark stands before the place, and one stands there or it is the end
module _ (p : ℕ → Bool) (xs : List ℕ) (i : ℕ) (before : (k : ℕ) → k < i → p (get_or xs k 0) ≡ false) where
  pub cut_at : i < length xs → p (get_or xs i 0) ≡ true → Cut p xs (Some i)
  cut_at l here =
      let at : position_or_len p xs ≡ i = position_or_len_is p xs i 0 (omega arith) before (λ _. here) in
      (subst (λ n. slice_split p xs ≡ take n xs ∷ slice_split p (drop (n + 1) xs)) at (slice_split_first p xs 0 (subst (λ n. n < length xs) (sym at) l)), l)

  pub cut_nowhere : i ≡ length xs → Cut p xs None
  cut_nowhere e =
      let at : position_or_len p xs ≡ i = position_or_len_is p xs i 0 (omega arith) before (λ l. absurd (omega arith)) in
      slice_split_none p xs (λ k d l. fails_before_first p xs k d (omega arith))

-- there is always a first piece
pub record SomeFirst (ps : List (List ℕ)) : Type 0 where
  pub first : List ℕ
  pub others : List (List ℕ)
  pub is : ps ≡ first ∷ others

pub some_first : (mark : ℕ) (bs : List ℕ) → SomeFirst (pieces mark bs)
some_first mark bs = go (pieces mark bs) (omega (arith, length-slice_split (λ b. eqb b mark) bs))
  where
    go : (ps : List (List ℕ)) → 1 ≤ length ps → SomeFirst ps
    go [] l = absurd (omega arith)
    go (p ∷ ps) l = record { first = p; others = ps; is = refl }

-- a text with a mark in it has two pieces at least
pub two_pieces : (mark : ℕ) (text front rest : List ℕ) → pieces mark text ≡ front ∷ pieces mark rest → 2 ≤ length (pieces mark text)
two_pieces mark text front rest e = rw e (omega (arith, length-slice_split (λ b. eqb b mark) rest))
