-- A transaction that gives up its place.
use Rattle.std.proofs.Common.{◌≡◌, ℕ, zero, suc, ◌+◌, ◌≤◌, Bool, true, false, cond, leb, List, [], ◌∷◌, set, refl, ap, arith}
use Rattle.std.specs.List.{remove as without}
use Rattle.std.proofs.lemmas.Bool.{and_from, and_parts, leb-true, le-leb}
use Rattle.versioning.specs.Machine.{Transaction}
use Rattle.cluster.specs.declared.transaction.Transaction.{Transaction as Held}
use Rattle.cluster.specs.Transactions.{transaction_of, transactions_of}
use Rattle.cluster.specs.Rooms.{rising, holds, holders}

pub shown_without : (items : List Held) (i : ℕ) → transactions_of (without items i) ≡ without (transactions_of items) i
shown_without [] zero = refl
shown_without [] (suc i) = refl
shown_without (x ∷ items) zero = refl
shown_without (x ∷ items) (suc i) = ap (λ (xs : List Transaction). transaction_of x ∷ xs) (shown_without items i)

-- what stood there does not matter
pub without_set : (xs : List Transaction) (i : ℕ) (u : Transaction) → without (set xs i u) i ≡ without xs i
without_set [] zero u = refl
without_set [] (suc i) u = refl
without_set (x ∷ xs) zero u = refl
without_set (x ∷ xs) (suc i) u = ap (λ (ys : List Transaction). x ∷ ys) (without_set xs i u)

pub holders_without : (j t : ℕ) (xs : List Transaction) (i : ℕ) → holders j t (without xs i) ≤ holders j t xs
holders_without j t [] zero = omega arith
holders_without j t [] (suc i) = omega arith
holders_without j t (x ∷ xs) zero = go (holds j t x)
  where
    go : (b : Bool) → holders j t xs ≤ cond b (holders j t xs + 1) (holders j t xs)
    go true = omega arith
    go false = omega arith
holders_without j t (x ∷ xs) (suc i) = go (holds j t x) (holders_without j t xs i)
  where
    go : (b : Bool) → holders j t (without xs i) ≤ holders j t xs → cond b (holders j t (without xs i) + 1) (holders j t (without xs i)) ≤ cond b (holders j t xs + 1) (holders j t xs)
    go true h = omega arith
    go false h = h

rising_lower : (low low' : ℕ) (xs : List Transaction) (begun : ℕ) → low' ≤ low → rising low xs begun ≡ true → rising low' xs begun ≡ true
rising_lower low low' [] begun l up = le-leb low' begun (omega (arith, leb-true low begun up))
rising_lower low low' (x ∷ xs) begun l up =
    let p = and_parts (leb low x.number) (rising (x.number + 1) xs begun) up in
    and_from (leb low' x.number) (rising (x.number + 1) xs begun) (le-leb low' x.number (omega (arith, leb-true low x.number p.0))) p.1

pub rising_without : (low : ℕ) (xs : List Transaction) (begun i : ℕ) → rising low xs begun ≡ true → rising low (without xs i) begun ≡ true
rising_without low [] begun zero up = up
rising_without low [] begun (suc i) up = up
rising_without low (x ∷ xs) begun zero up =
    let p = and_parts (leb low x.number) (rising (x.number + 1) xs begun) up in
    rising_lower (x.number + 1) low xs begun (omega (arith, leb-true low x.number p.0)) p.1
rising_without low (x ∷ xs) begun (suc i) up =
    let p = and_parts (leb low x.number) (rising (x.number + 1) xs begun) up in
    and_from (leb low x.number) (rising (x.number + 1) (without xs i) begun) p.0 (rising_without (x.number + 1) xs begun i p.1)
