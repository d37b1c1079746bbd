-- What a replica has executed of a transaction, and what waits there.
use Rattle.std.proofs.Common.{◌≡◌, ℕ, ◌<◌, Bool, true, not, ◌&&◌, List, length, get_or}
use Rattle.std.proofs.lemmas.Bool.{ltb-true}
use Rattle.sequencing.specs.declared.sequencer.Assigned.{Assigned}
use Rattle.versioning.specs.Words.{waits, next, done, has_table}
use Rattle.versioning.specs.Machine.{admits}
use Rattle.cluster.specs.declared.transaction.Transaction.{Transaction}
use Rattle.cluster.specs.Orderly.{executed_at}
use Rattle.cluster.specs.Transactions.{course_of}

-- the table t, at its version, holds the next operation back
abbrev pub held_by : Transaction → ℕ → List ℕ → ℕ → Bool
held_by x j versions t =
    has_table (course_of x) (done (course_of x) j) (next (course_of x) j) t && not (admits (get_or x.assigned t Assigned.None) (get_or versions t 0))

pub waits_below : (x : Transaction) (j : ℕ) → waits (course_of x) j ≡ true → executed_at x.progress j < length x.asked.items
waits_below x j h = ltb-true (executed_at x.progress j) (length x.asked.items) h
