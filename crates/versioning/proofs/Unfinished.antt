-- The list of the unfinished transactions, the oldest first: finding one, and the list changed.
use Rattle.std.proofs.Common.{◌≡◌, ℕ, suc, ◌<◌, Bool, true, false, cond, eqb, ◌≢◌, List, [], ◌∷◌, ◌++◌, sym, refl, ap, ◌∙◌, subst, arith}
use mathlib.Core.Bool.{false≢true}
use Rattle.std.specs.List.{AllByRecursion}
use Rattle.std.proofs.ByRecursion.{All-weaker, All-append}
use Rattle.std.proofs.lemmas.Bool.{eqb-true, eq-eqb, ne_eqb}
use Rattle.versioning.specs.Machine.{Transaction, finished, find, replace, remove}

abbrev pub numbers : List Transaction → List ℕ
numbers [] = []
numbers (x ∷ xs) = x.number ∷ numbers xs

abbrev pub Rising : List ℕ → Type 0
Rising [] = Unit {0}
Rising (m ∷ ms) = AllByRecursion (λ n. m < n) ms × Rising ms

-- the numbers rise, and all are below m
pub record OldestFirst (m : ℕ) (xs : List Transaction) : Type 0 where
  pub below : AllByRecursion (λ n. n < m) (numbers xs)
  pub rising : Rising (numbers xs)

-- one more
numbers_push : (xs : List Transaction) (x : Transaction) → numbers (xs ++ (x ∷ [])) ≡ numbers xs ++ (x.number ∷ [])
numbers_push [] x = refl
numbers_push (y ∷ ys) x = ap (λ ns. y.number ∷ ns) (numbers_push ys x)

rising_push : (ns : List ℕ) (m : ℕ) → AllByRecursion (λ n. n < m) ns → Rising ns → Rising (ns ++ (m ∷ []))
rising_push [] m a r = (tt, tt)
rising_push (n ∷ ns) m a r = (All-append (λ k. n < k) ns (m ∷ []) r.0 (a.0, tt), rising_push ns m a.1 r.1)

pub oldest_first_push : (m : ℕ) (xs : List Transaction) (x : Transaction) → x.number ≡ m → OldestFirst m xs → OldestFirst (suc m) (xs ++ (x ∷ []))
oldest_first_push m xs x e o =
    record {
      below = subst (AllByRecursion (λ n. n < suc m)) (sym (numbers_push xs x)) (All-append (λ n. n < suc m) (numbers xs) (x.number ∷ []) (All-weaker (λ n. n < m) (λ n. n < suc m) (λ n h. omega arith) (numbers xs) o.below) (omega arith, tt));
      rising = subst Rising (sym (numbers_push xs x)) (rising_push (numbers xs) x.number (subst (λ k. AllByRecursion (λ n. n < k) (numbers xs)) (sym e) o.below) o.rising);
    }

module _ (k : ℕ) (x : Transaction) where
  pub find_push_other : (xs : List Transaction) → x.number ≢ k → find k (xs ++ (x ∷ [])) ≡ find k xs
  find_push_other [] h = ap (λ b. cond b x finished) (ne_eqb x.number k h)
  find_push_other (y ∷ ys) h = ap (cond (eqb y.number k) y) (find_push_other ys h)

  pub find_push_new : (xs : List Transaction) → AllByRecursion (λ n. n < k) (numbers xs) → x.number ≡ k → find k (xs ++ (x ∷ [])) ≡ x
  find_push_new [] a h = ap (λ b. cond b x finished) (eq-eqb x.number k h)
  find_push_new (y ∷ ys) a h =
      ap (λ b. cond b y (find k (ys ++ (x ∷ [])))) (ne_eqb y.number k (λ q. omega (arith, a.0))) ∙ find_push_new ys a.1 h

-- one changed
module _ (k : ℕ) (y : Transaction) (e : y.number ≡ k) where
  numbers_replace : (xs : List Transaction) → numbers (replace k y xs) ≡ numbers xs
  numbers_replace [] = refl
  numbers_replace (x ∷ xs) = go (eqb x.number k) refl (numbers_replace xs)
    where
      go : (b : Bool) → eqb x.number k ≡ b → numbers (replace k y xs) ≡ numbers xs → numbers (cond b (y ∷ xs) (x ∷ replace k y xs)) ≡ x.number ∷ numbers xs
      go true q ih = ap (λ n. n ∷ numbers xs) (e ∙ sym (eqb-true x.number k q))
      go false q ih = ap (λ ns. x.number ∷ ns) ih

  pub oldest_first_replace : (m : ℕ) (xs : List Transaction) → OldestFirst m xs → OldestFirst m (replace k y xs)
  oldest_first_replace m xs o = record { below = subst (AllByRecursion (λ n. n < m)) (sym (numbers_replace xs)) o.below; rising = subst Rising (sym (numbers_replace xs)) o.rising }

  pub find_replace_other : (i : ℕ) (xs : List Transaction) → i ≢ k → find i (replace k y xs) ≡ find i xs
  find_replace_other i [] h = refl
  find_replace_other i (x ∷ xs) h = go (eqb x.number k) refl (find_replace_other i xs h)
    where
      go : (b : Bool) → eqb x.number k ≡ b → find i (replace k y xs) ≡ find i xs → find i (cond b (y ∷ xs) (x ∷ replace k y xs)) ≡ find i (x ∷ xs)
      go true q ih =
          ap (λ b. cond b y (find i xs)) (ne_eqb y.number i (λ p. h (sym p ∙ e))) ∙ sym (ap (λ b. cond b x (find i xs)) (ne_eqb x.number i (λ p. h (sym p ∙ eqb-true x.number k q))))
      go false q ih = ap (cond (eqb x.number i) x) ih

  -- a test that the stand-in fails tells that the transaction is there
  pub find_replace_same : (P : Transaction → Bool) → P finished ≡ false → (xs : List Transaction) → P (find k xs) ≡ true → find k (replace k y xs) ≡ y
  find_replace_same P f [] h = absurd (false≢true (sym f ∙ h))
  find_replace_same P f (x ∷ xs) h = go (eqb x.number k) refl (find_replace_same P f xs) h
    where
      go : (b : Bool) → eqb x.number k ≡ b → (P (find k xs) ≡ true → find k (replace k y xs) ≡ y) → P (cond b x (find k xs)) ≡ true → find k (cond b (y ∷ xs) (x ∷ replace k y xs)) ≡ y
      go true q ih h = ap (λ b. cond b y (find k xs)) (eq-eqb y.number k e)
      go false q ih h = ap (λ b. cond b x (find k (replace k y xs))) q ∙ ih h

-- one taken away
module _ (k : ℕ) where
  all_remove : (P : ℕ → Type 0) (xs : List Transaction) → AllByRecursion P (numbers xs) → AllByRecursion P (numbers (remove k xs))
  all_remove P [] a = tt
  all_remove P (x ∷ xs) a = go (eqb x.number k) (all_remove P xs a.1)
    where
      go : (b : Bool) → AllByRecursion P (numbers (remove k xs)) → AllByRecursion P (numbers (cond b xs (x ∷ remove k xs)))
      go true r = a.1
      go false r = (a.0, r)

  rising_remove : (xs : List Transaction) → Rising (numbers xs) → Rising (numbers (remove k xs))
  rising_remove [] r = tt
  rising_remove (x ∷ xs) r = go (eqb x.number k) (rising_remove xs r.1)
    where
      go : (b : Bool) → Rising (numbers (remove k xs)) → Rising (numbers (cond b xs (x ∷ remove k xs)))
      go true ih = r.1
      go false ih = (all_remove (λ n. x.number < n) xs r.0, ih)

  pub oldest_first_remove : (m : ℕ) (xs : List Transaction) → OldestFirst m xs → OldestFirst m (remove k xs)
  oldest_first_remove m xs o = record { below = all_remove (λ n. n < m) xs o.below; rising = rising_remove xs o.rising }

  pub find_remove_other : (i : ℕ) (xs : List Transaction) → i ≢ k → find i (remove k xs) ≡ find i xs
  find_remove_other i [] h = refl
  find_remove_other i (x ∷ xs) h = go (eqb x.number k) refl (find_remove_other i xs h)
    where
      go : (b : Bool) → eqb x.number k ≡ b → find i (remove k xs) ≡ find i xs → find i (cond b xs (x ∷ remove k xs)) ≡ find i (x ∷ xs)
      go true q ih = sym (ap (λ b. cond b x (find i xs)) (ne_eqb x.number i (λ p. h (sym p ∙ eqb-true x.number k q))))
      go false q ih = ap (cond (eqb x.number i) x) ih

  find_absent : (xs : List Transaction) → AllByRecursion (λ n. k < n) (numbers xs) → find k xs ≡ finished
  find_absent [] a = refl
  find_absent (x ∷ xs) a = ap (λ b. cond b x (find k xs)) (ne_eqb x.number k (λ q. omega (arith, a.0))) ∙ find_absent xs a.1

  pub find_remove_same : (xs : List Transaction) → Rising (numbers xs) → find k (remove k xs) ≡ finished
  find_remove_same [] r = refl
  find_remove_same (x ∷ xs) r = go (eqb x.number k) refl (find_remove_same xs r.1)
    where
      go : (b : Bool) → eqb x.number k ≡ b → find k (remove k xs) ≡ finished → find k (cond b xs (x ∷ remove k xs)) ≡ finished
      go true q ih = find_absent xs (subst (λ m. AllByRecursion (λ n. m < n) (numbers xs)) (eqb-true x.number k q) r.0)
      go false q ih = ap (λ b. cond b x (find k (remove k xs))) q ∙ ih
