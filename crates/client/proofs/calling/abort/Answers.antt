use Rattle.cluster.specs.View.{state_of}
use Rattle.client.proofs.Meets.{abort_meets}
use Rattle.client.proofs.calling.abort.Goals as goal

pub returns-clause-good : goal.returns-clause-good
returns-clause-good g c =
    rw c.abort.ensures.answer (λ good. abort_meets (state_of g.R.Replicas.catalogues c.args.cluster.now) c.args.number good)
