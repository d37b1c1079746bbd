use Rattle.std.proofs.Common.{arith}
use Rattle.cluster.proofs.Priced.{left_most}
use Rattle.cluster.proofs.cluster.Cluster.load.Goals as goal

pub cost_left_of_all-requires : goal.cost_left_of_all-requires
cost_left_of_all-requires g c =
    let s = c.args.self.now in
    omega (arith, left_most c.as_slice.result.now c.args.replica.number, c.as_slice.ensures.len, s.few)
