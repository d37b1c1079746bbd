use Rattle.std.proofs.Common.{ap, get_or, ◌∙◌, arith}
use Rattle.versioning.specs.declared.operation.Operation.{Operation}
use Rattle.cluster.proofs.Waiting.{waits_below}
use Rattle.cluster.proofs.transaction.next.NextOperation.operation.Goals as goal

pub asked_at-requires : goal.asked_at-requires
asked_at-requires c = omega (arith, c.executed.ensures.is, waits_below c.args.self.now.transaction.now c.args.self.now.replica.number c.args.self.now.waits)

pub returns : goal.returns
returns c =
    let is = ap (λ n. get_or c.args.self.now.transaction.now.asked.items n Operation.Commit) c.executed.ensures.is in
    record { is = c.asked_at.ensures.is ∙ is; range = c.asked_at.ensures.range }
