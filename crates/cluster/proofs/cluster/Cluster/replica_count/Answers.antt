use Rattle.std.proofs.Common.{sym, ◌∙◌}
use Rattle.cluster.proofs.Paired.{paired_length}
use Rattle.cluster.proofs.cluster.Cluster.replica_count.Goals as goal

pub returns : goal.returns
returns g c =
    let s = c.args.self.now in
    c.count.ensures ∙ sym (paired_length (g.R.Replicas.catalogues s.replicas) s.versions)
