use Rattle.std.proofs.Common.{◌∷◌, vec_items}
use Rattle.sequencing.specs.Sequencer.{counts_of}
use Rattle.tracing.proofs.Accessed.{stepped}
use Rattle.tracing.proofs.trace.Trace.of_line.Goals as goal

pub loop-byte-preserved : goal.loop-byte-preserved
loop-byte-preserved c =
    let s = c.in-Ok.ensures in
    (s.mode ∷ c.loop-byte.invariant.0, stepped c.loop-byte.byte-index c.loop-byte-test.true c.loop-byte.invariant.1 c.in-Ok.traced (counts_of c.step.new.sequencer) (vec_items c.push.new.self) s c.in_ok-push-in-Ok.ensures.items)
