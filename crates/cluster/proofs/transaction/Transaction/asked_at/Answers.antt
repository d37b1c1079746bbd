use Rattle.std.proofs.Common.{List, get_or, ap, subst, sym}
use Rattle.versioning.specs.declared.operation.Operation.{Operation}
use Rattle.cluster.specs.Executing.{InRange}
use Rattle.cluster.proofs.Facts.{in_range}
use Rattle.cluster.proofs.transaction.Transaction.asked_at.Goals as goal

pub returns : goal.returns
returns c =
    let n = c.args.n in
    let same = ap (λ (ops : List Operation). get_or ops n Operation.Commit) c.as_slice.ensures.is in
    record { is = same; range = subst InRange (sym same) (in_range c.args.self.now n c.requires) }
