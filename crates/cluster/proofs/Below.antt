-- Whether a number below n passes: as a loop looks for the first, and as the tables tell it one after the other. What is known of a test is that its answer is the number's.
use Rattle.std.proofs.Common.{◌≡◌, ℕ, zero, suc, ◌+◌, ◌<◌, ◌≤◌, Bool, true, false, ◌||◌, ◌⊎◌, List, [], ◌∷◌, ◌++◌, map, length, get_or, set, sym, refl, ap, ◌∙◌, inl, inr, not-suc-le-zero, arith}
use Rattle.std.specs.List.{list_any, range_with_len}
use Rattle.std.proofs.lemmas.List.{get_or-map, length-map, get_or-set_same, get_or-set_other, length-set}
use Rattle.std.proofs.lemmas.List.FromFn.{get_or-range_with_len}
use Rattle.std.proofs.lemmas.Bool.{cases_lt, or_left, or_right}
use Rattle.catalogue.specs.declared.table.Table.{Table}
use Rattle.versioning.specs.Words.{some_below}
use Rattle.versioning.proofs.Ops.{some_push}

range_push : (a n : ℕ) → range_with_len a (suc n) ≡ range_with_len a n ++ ((a + n) ∷ [])
range_push a zero = ap (λ (k : ℕ). k ∷ []) (omega arith)
range_push a (suc n) =
    ap (λ (ks : List ℕ). a ∷ ks) (range_push (a + 1) n ∙ ap (λ (k : ℕ). range_with_len (a + 1) n ++ (k ∷ [])) (omega arith))

either_order : (a b : Bool) → (a || b) ≡ (b || a)
either_order true true = refl
either_order true false = refl
either_order false true = refl
either_order false false = refl

module _ (p : ℕ → Bool) where
  passed : (n i : ℕ) → i < n → p i ≡ true → some_below n p ≡ true
  passed zero i l e = absurd (not-suc-le-zero l)
  passed (suc n) i l e = go (cases_lt i n) (λ q. passed n i q e)
    where
      go : (i < n) ⊎ (n ≤ i) → (i < n → some_below n p ≡ true) → (p n || some_below n p) ≡ true
      go (inl q) f = or_right (p n) (some_below n p) (f q)
      go (inr q) f =
          let same : i ≡ n = omega arith in
          or_left (p n) (some_below n p) (sym (ap p same) ∙ e)

  pub below_hit : (n i : ℕ) → i < n → true ≡ p i → true ≡ some_below n p
  below_hit n i l e = sym (passed n i l (sym e))

  -- the numbers below n, one after the other
  numbers_some : (n : ℕ) → list_any p (range_with_len 0 n) ≡ some_below n p
  numbers_some zero = refl
  numbers_some (suc n) =
      ap (list_any p) (range_push 0 n ∙ ap (λ (k : ℕ). range_with_len 0 n ++ (k ∷ [])) (omega arith))
      ∙ some_push p (range_with_len 0 n) n
      ∙ ap (λ b. b || p n) (numbers_some n)
      ∙ either_order (some_below n p) (p n)

  -- the eight tables, told by their numbers
  pub tables_some : (ts : List Table) → map (λ t. t.number) ts ≡ range_with_len 0 8 → list_any (λ t. p t.number) ts ≡ some_below 8 p
  tables_some ts e = sym (mapped ts) ∙ ap (list_any p) e ∙ numbers_some 8
    where
      mapped : (us : List Table) → list_any p (map (λ t. t.number) us) ≡ list_any (λ t. p t.number) us
      mapped [] = refl
      mapped (u ∷ us) = ap (λ b. p u.number || b) (mapped us)

-- the table at n is that of the number n
pub table_at : (ts : List Table) (n : ℕ) (t : Table) → map (λ u. u.number) ts ≡ range_with_len 0 8 → n < 8 → t ≡ get_or ts n t → t.number ≡ n
table_at ts n t e l is =
    let long : n < length ts = omega (arith, ap length e, length-map ts (λ u. u.number)) in
    ap (λ (u : Table). u.number) is ∙ sym (get_or-map (λ u. u.number) ts n t 0 long) ∙ ap (λ (ks : List ℕ). get_or ks n 0) e ∙ get_or-range_with_len 0 8 n 0 l ∙ omega arith

-- of eight numbers those below n are as f has them, and the others as they were
abbrev pub Filled : (ℕ → ℕ) → List ℕ → List ℕ → ℕ → Type 0
Filled f before now n = (length now ≡ 8) × ((k : ℕ) → k < n → get_or now k 0 ≡ f k) × ((k : ℕ) → n ≤ k → get_or now k 0 ≡ get_or before k 0)

pub fill_next : (f : ℕ → ℕ) (before now : List ℕ) (n i v : ℕ) → n < 8 → i ≡ n → v ≡ f n → Filled f before now n → Filled f before (set now i v) (n + 1)
fill_next f before now n i v l e is h =
    (length-set now i v ∙ h.0, (λ k m. go k m (cases_lt k n)), λ k m. get_or-set_other now i k v 0 (λ same. omega arith) ∙ h.2 k (omega arith))
  where
    go : (k : ℕ) → k < n + 1 → (k < n) ⊎ (n ≤ k) → get_or (set now i v) k 0 ≡ f k
    go k m (inl q) = get_or-set_other now i k v 0 (λ same. omega arith) ∙ h.1 k q
    go k m (inr q) =
        let at : k ≡ i = omega arith in
        ap (λ (j : ℕ). get_or (set now i v) j 0) at ∙ get_or-set_same now i v 0 (omega (arith, h.0)) ∙ is ∙ ap f (omega arith)
