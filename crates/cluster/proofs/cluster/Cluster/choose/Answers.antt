use Rattle.std.proofs.Common.{◌≡◌, length, ap, ◌∙◌, arith}
use Rattle.versioning.specs.Machine.{least, load}
use Rattle.cluster.specs.Transactions.{transaction_of}
use Rattle.cluster.specs.View.{state_of, fits}
use Rattle.cluster.proofs.Paired.{paired_length}
use Rattle.cluster.proofs.cluster.Cluster.choose.Goals as goal

pub returns : goal.returns
returns g c =
    let s = c.args.self.now in
    let st = state_of g.R.Replicas.catalogues s in
    let x = transaction_of c.args.transaction.now in
    let f = fits st x c.args.table.number in
    let all : c.loop-replica.replica ≡ length st.replicas = omega (arith, paired_length (g.R.Replicas.catalogues s.replicas) s.versions) in
    c.loop-replica.invariant ∙ ap (least f (load st)) all
