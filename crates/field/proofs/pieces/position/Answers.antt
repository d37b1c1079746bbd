use Rattle.std.proofs.Common.{eqb, get_or, arith}
use Rattle.std.proofs.lemmas.Bool.{eq-eqb}
use Rattle.field.proofs.Cut.{cut_at, cut_nowhere}
use Rattle.field.proofs.pieces.position.Goals as goal

pub returns-then-byte-mark : goal.returns-then-byte-mark
returns-then-byte-mark c = cut_at (λ b. eqb b c.args.mark) c.args.text.now c.loop-i.i c.loop-i.invariant c.loop-i-test.true (eq-eqb (get_or c.args.text.now c.loop-i.i 0) c.args.mark c.if-byte-mark.true)

pub returns : goal.returns
returns c = cut_nowhere (λ b. eqb b c.args.mark) c.args.text.now c.loop-i.i c.loop-i.invariant (omega arith)
