use Rattle.std.proofs.Common.{List, drop, vec_items}
use Rattle.sequencing.specs.declared.mode.Mode.{Mode}
use Rattle.sequencing.specs.Sequencer.{counts_of}
use Rattle.tracing.proofs.Accessed.{After}
use Rattle.tracing.proofs.trace.Trace.of_line.Given as goal

abbrev pub invariant-loop-byte : goal.invariant-loop-byte
invariant-loop-byte l = (earlier : List Mode) × After earlier (counts_of l.sequencer) (vec_items l.accesses) l.line (drop l.byte-index l.line)
