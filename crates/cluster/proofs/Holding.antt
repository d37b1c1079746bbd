-- A transaction that holds a table is one of its holders.
use Rattle.std.proofs.Common.{◌≡◌, ℕ, zero, suc, ◌+◌, ◌<◌, ◌≤◌, Bool, true, false, cond, not, List, [], ◌∷◌, length, get_or, ap, ◌∙◌, le_of_suc-le-suc, not-suc-le-zero, arith}
use Rattle.std.proofs.lemmas.Bool.{and_from}
use Rattle.sequencing.specs.Modes.{declares}
use Rattle.versioning.specs.Words.{mode, has_let_go}
use Rattle.versioning.specs.Machine.{Transaction, finished}
use Rattle.cluster.specs.declared.transaction.Transaction.{Transaction as Held}
use Rattle.cluster.specs.Transactions.{course_of, transaction_of}
use Rattle.cluster.specs.Rooms.{holds, holders}

counted : (j t : ℕ) (xs : List Transaction) (i : ℕ) → i < length xs → holds j t (get_or xs i finished) ≡ true → 1 ≤ holders j t xs
counted j t [] i l h = absurd (not-suc-le-zero l)
counted j t (x ∷ xs) zero l h = omega (arith, ap (λ (b : Bool). cond b (holders j t xs + 1) (holders j t xs)) h)
counted j t (x ∷ xs) (suc i) l h = go (holds j t x) (counted j t xs i (le_of_suc-le-suc l) h)
  where
    go : (b : Bool) → 1 ≤ holders j t xs → 1 ≤ cond b (holders j t xs + 1) (holders j t xs)
    go true m = omega arith
    go false m = m

pub holder_at : (j t : ℕ) (xs : List Transaction) (i : ℕ) (x : Held) → i < length xs → get_or xs i finished ≡ transaction_of x → declares (mode (course_of x) t) ≡ true → has_let_go (course_of x) j t ≡ false → 1 ≤ holders j t xs
holder_at j t xs i x l is d g =
    counted j t xs i l (ap (holds j t) is ∙ and_from (declares (mode (course_of x) t)) (not (has_let_go (course_of x) j t)) d (ap not g))
