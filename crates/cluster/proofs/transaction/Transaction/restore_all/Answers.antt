use Rattle.std.proofs.Common.{◌∙◌, arith}
use Rattle.cluster.specs.Orderly.{progress_at, executed_at}
use Rattle.cluster.proofs.Executed.{undo_step}
use Rattle.cluster.proofs.transaction.Transaction.restore_all.Goals as goal

pub loop-turn-preserved : goal.loop-turn-preserved
loop-turn-preserved g c =
    let x = c.args.self.now in
    let j = c.args.replica.number in
    let turn = undo_step (g.R.Replicas.catalogues c.loop-turn.replicas) j x.asked.items (progress_at x.progress j).replaced.items (executed_at x.progress j) c.loop-turn.turn (g.R.Replicas.catalogues c.restore_newest.new.replicas) (omega (arith, c.loop-turn-test.true, c.executed-turn-end.ensures.is)) (omega (arith, c.loop-turn.invariant.0)) c.restore_newest.ensures.rows in
    (turn.0 ∙ c.loop-turn.invariant.0, turn.1 ∙ c.loop-turn.invariant.1, c.restore_newest.ensures.kept ∙ c.loop-turn.invariant.2)
