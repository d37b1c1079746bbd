-- A transaction in its place that asks one operation more.
use Rattle.std.proofs.Common.{◌≡◌, ℕ, zero, suc, ◌+◌, ◌<◌, Bool, true, false, cond, not, ◌&&◌, eqb, leb, List, [], ◌∷◌, length, get_or, set, sym, refl, ap, ◌∙◌, le_of_suc-le-suc, not-suc-le-zero, arith}
use Rattle.std.proofs.lemmas.List.{set-get_or}
use Rattle.std.proofs.lemmas.Bool.{lt-ltb}
use Rattle.catalogue.specs.Refusals.{first, unless_refused}
use Rattle.sequencing.specs.Modes.{declares}
use Rattle.versioning.specs.declared.operation.Operation.{Operation}
use Rattle.versioning.specs.Words.{mode, ask}
use Rattle.versioning.specs.Machine.{State, Transaction, finished, transaction, course, known, asking, asking_transaction, kept_if_refused}
use Rattle.cluster.specs.declared.transaction.Transaction.{Transaction as Held}
use Rattle.cluster.specs.Transactions.{transaction_of, may_ask, may_ask_reply, with_course, asked_after, StandsAt}
use Rattle.cluster.specs.Orderly.{bit}
use Rattle.cluster.specs.Rooms.{rising, holds, holders}
use Rattle.cluster.specs.View.{ask_reply, ask_after}
use Rattle.cluster.proofs.Facts.{asking_keeps}

-- the state with the unfinished replaced
abbrev pub with_unfinished : State → List Transaction → State
with_unfinished s xs = record { counts = s.counts; replicas = s.replicas; unfinished = xs }

module _ (s : State) (k i : ℕ) (u : Transaction) (begun : k < s.counts.begun) (at : StandsAt k i s.unfinished) (is : get_or s.unfinished i finished ≡ u) where
  pub there : transaction s k ≡ u
  there = at.found ∙ is

  module _ (op : Operation) where
    number_is : first (known s k ∷ may_ask (course s k) op) ≡ first (may_ask u.course op)
    number_is =
        ap (λ (b : Bool). cond (not b) 6 (first (may_ask (course s k) op))) (lt-ltb k s.counts.begun begun)
        ∙ ap (λ (v : Transaction). first (may_ask v.course op)) there

    pub asked_reply : ask_reply s k op ≡ may_ask_reply u op
    asked_reply = ap (λ n. unless_refused n tt) number_is

    pub asked_state : ask_after s k op ≡ with_unfinished s (set s.unfinished i (asked_after u op))
    asked_state = ap (λ n. kept_if_refused n s (asking s k op)) number_is ∙ go (eqb (first (may_ask u.course op)) 0)
      where
        go : (b : Bool) → cond b (asking s k op) s ≡ with_unfinished s (set s.unfinished i (cond b (with_course u (ask op u.course)) u))
        go true =
            ap (with_unfinished s)
            (at.replaced (asking_transaction s k op) ∙ ap (λ (v : Transaction). set s.unfinished i (with_course v (ask op v.course))) there)
        go false = ap (with_unfinished s) (sym (ap (set s.unfinished i) (sym is) ∙ set-get_or s.unfinished i finished))

-- a transaction replaced by one of the same number
pub rising_set : (low : ℕ) (xs : List Transaction) (i begun : ℕ) (u : Transaction) → i < length xs → u.number ≡ (get_or xs i finished).number → rising low (set xs i u) begun ≡ rising low xs begun
rising_set low [] i begun u l e = absurd (not-suc-le-zero l)
rising_set low (x ∷ xs) zero begun u l e = ap (λ n. leb low n && rising (n + 1) xs begun) e
rising_set low (x ∷ xs) (suc i) begun u l e = ap (λ b. leb low x.number && b) (rising_set (x.number + 1) xs i begun u (le_of_suc-le-suc l) e)

-- how many hold a table, when one transaction is replaced by another
pub holders_set : (j t : ℕ) (xs : List Transaction) (i : ℕ) (u : Transaction) → i < length xs → holders j t (set xs i u) + bit (holds j t (get_or xs i finished)) ≡ holders j t xs + bit (holds j t u)
holders_set j t [] i u l = absurd (not-suc-le-zero l)
holders_set j t (x ∷ xs) zero u l = go (holds j t u) (holds j t x)
  where
    n : ℕ
    n = holders j t xs

    go : (a b : Bool) → cond a (holders j t xs + 1) (holders j t xs) + bit b ≡ cond b (holders j t xs + 1) (holders j t xs) + bit a
    go true true = refl
    go true false = omega arith
    go false true = omega arith
    go false false = refl
holders_set j t (x ∷ xs) (suc i) u l = go (holds j t x) (holders_set j t xs i u (le_of_suc-le-suc l))
  where
    go : (b : Bool) → holders j t (set xs i u) + bit (holds j t (get_or xs i finished)) ≡ holders j t xs + bit (holds j t u) → cond b (holders j t (set xs i u) + 1) (holders j t (set xs i u)) + bit (holds j t (get_or xs i finished)) ≡ cond b (holders j t xs + 1) (holders j t xs) + bit (holds j t u)
    go true e = omega (arith, e)
    go false e = e

-- asking changes no letting go
pub holds_asked : (x : Held) (op : Operation) (j t : ℕ) → holds j t (asked_after (transaction_of x) op) ≡ holds j t (transaction_of x)
holds_asked x op j t = go (eqb (first (may_ask (transaction_of x).course op)) 0)
  where
    go : (b : Bool) → holds j t (cond b (with_course (transaction_of x) (ask op (transaction_of x).course)) (transaction_of x)) ≡ holds j t (transaction_of x)
    go true = ap (λ (b : Bool). declares (mode (transaction_of x).course t) && not b) (asking_keeps x j op t)
    go false = refl

pub number_asked : (u : Transaction) (op : Operation) → (asked_after u op).number ≡ u.number
number_asked u op = go (eqb (first (may_ask u.course op)) 0)
  where
    go : (b : Bool) → (cond b (with_course u (ask op u.course)) u).number ≡ u.number
    go true = refl
    go false = refl
