use Rattle.std.proofs.Common.{◌≡◌}
use Rattle.versioning.specs.Machine.{least, load}
use Rattle.cluster.specs.Transactions.{transaction_of}
use Rattle.cluster.specs.View.{state_of, fits, number_of}
use Rattle.cluster.proofs.cluster.Cluster.choose.Given as goal

abbrev pub invariant-loop-replica : goal.invariant-loop-replica
invariant-loop-replica g l =
    number_of l.best ≡ least (fits (state_of g.R.Replicas.catalogues l.self) (transaction_of l.transaction) l.table.number) (load (state_of g.R.Replicas.catalogues l.self)) l.replica
