use Rattle.cluster.specs.View.{state_of}
use Rattle.client.proofs.Kept.{begin_good}
use Rattle.client.proofs.calling.begin.Goals as goal

pub returns-clause-good : goal.returns-clause-good
returns-clause-good g c =
    let s = state_of g.R.Replicas.catalogues in
    begin_good (s c.args.cluster.now) c.args.modes c.begin.result (s c.begin.new.self) c.args.cluster.now.ordered c.begin.ensures.answer c.begin.ensures.after
