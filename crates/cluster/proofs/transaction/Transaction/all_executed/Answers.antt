use Rattle.std.proofs.Common.{not, sym, arith}
use Rattle.std.proofs.lemmas.Bool.{and_right, not_from_true}
use Rattle.versioning.specs.Words.{some_below, waits, ended}
use Rattle.cluster.specs.Transactions.{course_of}
use Rattle.cluster.proofs.Below.{below_hit}
use Rattle.cluster.proofs.transaction.Transaction.all_executed.Goals as goal

pub returns-then-waits : goal.returns-then-waits
returns-then-waits c =
    let x = course_of c.args.self.now in
    let n = c.args.replicas in
    sym (and_right (ended x.asked) (not (some_below n (waits x))) (not_from_true (some_below n (waits x)) (sym (below_hit (waits x) n c.loop-number.number (omega arith) c.if-waits.ensures))))
