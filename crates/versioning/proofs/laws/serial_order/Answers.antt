use Rattle.versioning.proofs.Runs.{serial_order}
use Rattle.versioning.proofs.laws.serial_order.Goals as goal

pub returns : goal.returns
returns g c = serial_order g.F.Family.packed g.F.Family.unpacked
