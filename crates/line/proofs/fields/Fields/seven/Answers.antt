use Rattle.field.specs.Fields.{content_of}
use Rattle.field.proofs.Cut.{two_pieces}
use Rattle.line.proofs.Seven.{too_many}
use Rattle.line.proofs.fields.Fields.seven.Goals as goal

pub returns-in-Some : goal.returns-in-Some
returns-in-Some c =
    too_many content_of _ _ _ _ _ _ _ _ _ _ _ _ _ c.in_ok-call.ensures.0 c.in_ok-number.ensures.0 c.in_ok-place.ensures.0 c.in_ok-row.ensures.0 c.in_ok-high.ensures.0 c.in_ok-low.ensures.0
    (two_pieces 44 c.in_ok-low.class.now c.in-Some.field-0.0.now c.in-Some.field-0.1.now c.in-Some.ensures.0)
