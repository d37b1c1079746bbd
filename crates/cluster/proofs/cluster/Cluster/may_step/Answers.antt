use Rattle.std.proofs.Common.{◌<◌, length, refl, arith}
use Rattle.std.proofs.lemmas.Result.{err_from_is_err_and}
use Rattle.sequencing.specs.Sequencer.{counts_of}
use Rattle.cluster.proofs.Checked.{step_refused, steps_at}
use Rattle.cluster.proofs.Paired.{paired_length}
use Rattle.cluster.proofs.cluster.Cluster.may_step.Goals as goal

pub invariant_of-replica : goal.invariant_of-replica
invariant_of-replica g c =
    let s = c.args.self.now in
    omega (arith, c.replica_count.ensures, paired_length (g.R.Replicas.catalogues s.replicas) s.versions, (g.R.Replicas.whole s.replicas).few)

pub returns-in_err-may_execute : goal.returns-in_err-may_execute
returns-in_err-may_execute g c =
    let s = c.args.self.now in
    let there : c.args.replica < length (g.R.Replicas.catalogues s.replicas) = omega (arith, c.replica_count.ensures, paired_length (g.R.Replicas.catalogues s.replicas) s.versions) in
    let begun : c.args.number < (counts_of s.sequencer).begun = omega (arith, c.begun.ensures) in
    let p = err_from_is_err_and c.from_residual.result c.from_residual.ensures.1 in
    rw (p.1, p.2) (step_refused g.R.Replicas.catalogues s c.args.number c.args.replica c.in-Some.i c.index.result.now there begun c.in-Some.ensures c.index.ensures _ c.in_err-may_execute.ensures)

pub returns : goal.returns
returns g c =
    let s = c.args.self.now in
    let there : c.args.replica < length (g.R.Replicas.catalogues s.replicas) = omega (arith, c.replica_count.ensures, paired_length (g.R.Replicas.catalogues s.replicas) s.versions) in
    let begun : c.args.number < (counts_of s.sequencer).begun = omega (arith, c.begun.ensures) in
    (refl, steps_at g.R.Replicas.catalogues s c.args.number c.args.replica c.in-Some.i c.index.result.now there begun c.in-Some.ensures c.index.ensures c.in_ok-may_execute.ensures)
