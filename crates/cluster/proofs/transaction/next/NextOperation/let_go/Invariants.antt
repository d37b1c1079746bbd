use Rattle.versioning.specs.Machine.{version_after}
use Rattle.std.proofs.Common.{get_or}
use Rattle.cluster.specs.Transactions.{course_of}
use Rattle.cluster.proofs.Below.{Filled}
use Rattle.cluster.proofs.transaction.next.NextOperation.let_go.Given as goal

abbrev pub invariant-loop-table : goal.invariant-loop-table
invariant-loop-table l =
    Filled (λ t. version_after (course_of l.self.transaction.now) l.self.replica.number t (get_or l.initial.versions t 0)) l.initial.versions l.versions l.table-index
