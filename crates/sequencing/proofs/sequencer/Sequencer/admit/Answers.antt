use Rattle.sequencing.proofs.Moved.{counted_more}
use Rattle.sequencing.proofs.sequencer.Sequencer.admit.Goals as goal

pub invariant_of-self-clause-counted : goal.invariant_of-self-clause-counted
invariant_of-self-clause-counted c =
    let s = c.args.self.now in
    rw c.move_all_on.ensures (counted_more c.args.modes.now s.next s.begun s.counted)
