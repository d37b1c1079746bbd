use Rattle.std.proofs.Common.{◌≡◌}
use Rattle.copying.proofs.Alike.{AlikeTo}
use Rattle.copying.proofs.copy_first.Given as goal

abbrev pub invariant-loop-to : goal.invariant-loop-to
invariant-loop-to g l =
    AlikeTo (g.R.Replicas.catalogues l.initial.replicas) (g.R.Replicas.catalogues l.replicas) l.to × (g.R.Replicas.lents l.replicas ≡ g.R.Replicas.lents l.initial.replicas)
