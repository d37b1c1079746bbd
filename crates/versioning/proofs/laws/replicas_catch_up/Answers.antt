use Rattle.versioning.proofs.CatchingUp.{oldest_never_held_back, always_catches_up}
use Rattle.versioning.proofs.laws.replicas_catch_up.Goals as goal

pub returns : goal.returns
returns g c =
    record {
      oldest = oldest_never_held_back g.F.Family.packed g.F.Family.unpacked;
      emptied = always_catches_up g.F.Family.packed g.F.Family.unpacked;
    }
