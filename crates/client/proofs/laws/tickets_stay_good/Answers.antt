use Rattle.client.proofs.Kept.{stays_good}
use Rattle.client.proofs.laws.tickets_stay_good.Goals as goal

pub returns : goal.returns
returns g c = stays_good g.F.Family.packed g.F.Family.unpacked
