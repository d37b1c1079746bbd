use Rattle.std.proofs.Common.{◌≤◌, length, arith}
use Rattle.copying.proofs.Alike.{alike_all}
use Rattle.copying.proofs.copy_first.Goals as goal

pub returns : goal.returns
returns g c =
    let before = g.R.Replicas.catalogues c.args.replicas.now in
    let cs = g.R.Replicas.catalogues c.loop-to.replicas in
    let all : length cs ≤ c.loop-to.to = omega (arith, c.loop-to.invariant.0.size) in
    record {
      rows = alike_all before cs c.loop-to.to all c.loop-to.invariant.0;
      kept = c.loop-to.invariant.1;
    }
