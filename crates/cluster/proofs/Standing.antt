-- Where a transaction stands among the unfinished.
use Rattle.std.proofs.Common.{◌≡◌, ℕ, suc, ◌+◌, ◌<◌, ◌≤◌, Bool, true, false, cond, not, eqb, ltb, List, [], ◌∷◌, length, get_or, Some, None, sym, refl, ap, ◌∙◌, subst, not-suc-le-zero, arith}
use Rattle.std.specs.List.{position, position_or_len}
use Rattle.std.proofs.lemmas.Bool.{ltb-true, ltb-false}
use Rattle.versioning.specs.Machine.{Transaction, finished, find, replace, remove}
use Rattle.std.proofs.lemmas.List.{get_or-map, length-map}
use Rattle.cluster.specs.declared.transaction.Transaction.{Transaction as Held}
use Rattle.cluster.specs.Transactions.{transaction_of, transactions_of, StandsAt, Stands}

module _ (k : ℕ) where
  -- a transaction has the number k; where the first such stands, or how many there are if none does
  abbrev pub has_number : Held → Bool
  has_number x = eqb x.number k

  abbrev first_at : List Held → ℕ
  first_at items = position_or_len has_number items

  found_first : (items : List Held) → first_at items < length items → StandsAt k (first_at items) (transactions_of items)
  found_first [] l = absurd (not-suc-le-zero l)
  found_first (x ∷ items) l = go (has_number x) refl l (found_first items)
    where
      xs : List Transaction
      xs = transactions_of items

      go : (b : Bool) → has_number x ≡ b → cond (not b) (1 + first_at items) 0 < suc (length items) → (first_at items < length items → StandsAt k (first_at items) xs) → StandsAt k (cond (not b) (1 + first_at items) 0) (transaction_of x ∷ xs)
      go true e l rest =
          record {
            within = omega arith;
            found = ap (λ (b : Bool). cond b (transaction_of x) (find k xs)) e;
            replaced = λ y. ap (λ (b : Bool). cond b (y ∷ xs) (transaction_of x ∷ replace k y xs)) e;
            removed = ap (λ (b : Bool). cond b xs (transaction_of x ∷ remove k xs)) e;
          }
      go false e l rest =
          let at = rest (omega arith) in
          let next : suc (first_at items) ≡ 1 + first_at items = omega arith in
          subst (λ n. StandsAt k n (transaction_of x ∷ xs)) next (record {
            within = omega (arith, at.within);
            found = ap (λ (b : Bool). cond b (transaction_of x) (find k xs)) e ∙ at.found;
            replaced = λ y. ap (λ (b : Bool). cond b (y ∷ xs) (transaction_of x ∷ replace k y xs)) e ∙ ap (λ (ys : List Transaction). transaction_of x ∷ ys) (at.replaced y);
            removed = ap (λ (b : Bool). cond b xs (transaction_of x ∷ remove k xs)) e ∙ ap (λ (ys : List Transaction). transaction_of x ∷ ys) at.removed;
          })

  none_found : (items : List Held) → length items ≤ first_at items → find k (transactions_of items) ≡ finished
  none_found [] l = refl
  none_found (x ∷ items) l = go (has_number x) refl l (none_found items)
    where
      go : (b : Bool) → has_number x ≡ b → suc (length items) ≤ cond (not b) (1 + first_at items) 0 → (length items ≤ first_at items → find k (transactions_of items) ≡ finished) → find k (transaction_of x ∷ transactions_of items) ≡ finished
      go true e l rest = absurd (omega arith)
      go false e l rest = ap (λ (b : Bool). cond b (transaction_of x) (find k (transactions_of items))) e ∙ rest (omega arith)

  pub stands_at : (items : List Held) → Stands k (transactions_of items) (position has_number items)
  stands_at items = go (ltb (first_at items) (length items)) refl
    where
      go : (b : Bool) → ltb (first_at items) (length items) ≡ b → Stands k (transactions_of items) (cond b (Some (first_at items)) None)
      go true e = found_first items (ltb-true (first_at items) (length items) e)
      go false e = none_found items (ltb-false (first_at items) (length items) e)

-- an element that was read, as the machine has it
pub shown_at : (items : List Held) (i : ℕ) (x : Held) → i < length items → x ≡ get_or items i x → get_or (transactions_of items) i finished ≡ transaction_of x
shown_at items i x l e = get_or-map transaction_of items i x finished l ∙ ap transaction_of (sym e)

pub many : (items : List Held) → length (transactions_of items) ≡ length items
many items = length-map items transaction_of
