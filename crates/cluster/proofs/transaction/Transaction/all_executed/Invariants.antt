use Rattle.std.proofs.Common.{◌≡◌, false}
use Rattle.versioning.specs.Words.{some_below, waits}
use Rattle.cluster.specs.Transactions.{course_of}
use Rattle.cluster.proofs.transaction.Transaction.all_executed.Given as goal

abbrev pub invariant-loop-number : goal.invariant-loop-number
invariant-loop-number l = some_below l.number (waits (course_of l.self)) ≡ false
