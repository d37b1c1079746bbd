use Rattle.std.proofs.Common.{◌≡◌}
use Rattle.copying.specs.Copied.{copied_places}
use Rattle.copying.proofs.copy_places.Given as goal

abbrev pub invariant-loop-place : goal.invariant-loop-place
invariant-loop-place g l = record {
  rows : g.R.Replicas.catalogues l.replicas ≡ copied_places (g.R.Replicas.catalogues l.initial.replicas) l.to l.place;
  kept : g.R.Replicas.lents l.replicas ≡ g.R.Replicas.lents l.initial.replicas;
}
