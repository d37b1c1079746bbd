use Rattle.std.proofs.Common.{◌≡◌, ◌+◌, ◌++◌, map, drop, vec_items, vec_len, vec_capacity}
use Rattle.catalogue.specs.Refusals.{told}
use Rattle.versioning.specs.Machine.{final}
use Rattle.cluster.specs.View.{state_of}
use Rattle.cluster.specs.Runs.{replies}
use Rattle.cluster.proofs.cluster.Cluster.request_all.Given as goal

-- what is left gives the rest of the answers and the later state, there is room for it, and what is lent is as it was
abbrev pub invariant-loop-request : goal.invariant-loop-request
invariant-loop-request g l =
    (map told (vec_items l.answers) ++ replies g.F.Family.packed g.F.Family.unpacked (state_of g.R.Replicas.catalogues l.self) (drop l.request-index l.requests)
    ≡ map told (vec_items l.initial.answers) ++ replies g.F.Family.packed g.F.Family.unpacked (state_of g.R.Replicas.catalogues l.initial.self) l.requests)
    × (final g.F.Family.packed g.F.Family.unpacked (state_of g.R.Replicas.catalogues l.self) (drop l.request-index l.requests)
    ≡ final g.F.Family.packed g.F.Family.unpacked (state_of g.R.Replicas.catalogues l.initial.self) l.requests)
    × (vec_len l.answers ≡ vec_len l.initial.answers + l.request-index)
    × (vec_capacity l.answers ≡ vec_capacity l.initial.answers)
    × (g.R.Replicas.lents l.self.replicas ≡ g.R.Replicas.lents l.initial.self.replicas)
