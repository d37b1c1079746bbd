use Rattle.std.proofs.Common.{ap, arith}
use Rattle.cluster.specs.declared.transaction.progress.Progress.{Progress}
use Rattle.cluster.proofs.Asked.{most_asked}
use Rattle.cluster.proofs.Priced.{all_most, left_is}
use Rattle.cluster.proofs.transaction.Transaction.cost_left.Goals as goal

pub returns : goal.returns
returns c =
    let x = c.args.self.now in
    let cost = ap (λ (p : Progress). p.cost) c.progress.ensures in
    let left = left_is x c.args.replica.number in
    record { is = omega (arith, cost, left); most = omega (arith, left, all_most x, most_asked x) }
