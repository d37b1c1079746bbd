use Rattle.std.proofs.Common.{◌≡◌, ◌-◌, length, set}
use Rattle.catalogue.specs.Replicated.{catalogue_of}
use Rattle.versioning.specs.Machine.{undo}
use Rattle.cluster.specs.Orderly.{progress_at, executed_at}
use Rattle.cluster.specs.Transactions.{transaction_of, replaced_rows}
use Rattle.cluster.proofs.transaction.Transaction.restore_all.Given as goal

-- undoing what is left gives what undoing all gives
abbrev pub invariant-loop-turn : goal.invariant-loop-turn
invariant-loop-turn g l =
    (length (g.R.Replicas.catalogues l.replicas) ≡ length (g.R.Replicas.catalogues l.initial.replicas))
    × (set (g.R.Replicas.catalogues l.replicas) l.replica.number (undo (replaced_rows l.self.asked.items (progress_at l.self.progress l.replica.number).replaced.items (executed_at l.self.progress l.replica.number - l.turn)) (catalogue_of (g.R.Replicas.catalogues l.replicas) l.replica.number)) ≡ set (g.R.Replicas.catalogues l.initial.replicas) l.replica.number (undo ((transaction_of l.self).replaced l.replica.number) (catalogue_of (g.R.Replicas.catalogues l.initial.replicas) l.replica.number)))
    × (g.R.Replicas.lents l.replicas ≡ g.R.Replicas.lents l.initial.replicas)
