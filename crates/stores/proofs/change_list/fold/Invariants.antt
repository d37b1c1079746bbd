use Rattle.std.proofs.Common.{◌≡◌, take}
use Rattle.stores.specs.Held.{image, beyond}
use Rattle.stores.specs.Changes.{noted}
use Rattle.stores.proofs.change_list.fold.Given as goal

abbrev pub invariant-loop-change : goal.invariant-loop-change
invariant-loop-change l = record {
  image : image l.memory ≡ noted (image l.initial.memory) (take l.change-index l.changes);
  beyond : beyond l.memory ≡ beyond l.initial.memory;
}
