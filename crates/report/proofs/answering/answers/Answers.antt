use Rattle.std.proofs.Common.{◌≡◌, take, replicate, ap, ◌∙◌, arith}
use lib.ListN.{length-replicate}
use Rattle.std.proofs.lemmas.List.{take_all}
use Rattle.catalogue.specs.Rows.{blank}
use Rattle.stores.specs.Held.{image}
use Rattle.versioning.specs.Machine.{start}
use Rattle.report.specs.Reports.{zero_rows}
use Rattle.report.specs.Writing.{answers_to}
use Rattle.report.proofs.answering.answers.Goals as goal

-- The rows of the first replica are those of its memory, which are zero.
pub returns : goal.returns
unfolding zero_rows
returns c =
    let zero : image c.in_ok-first.first ≡ replicate 512 blank =
    ap (take 512) c.in_ok-first.ensures ∙ take_all 512 (replicate 512 blank) (omega (arith, length-replicate 512 blank)) in
    c.in_ok-answers.ensures.answers
    ∙ ap (λ rows. answers_to (start 3 rows) c.args.requests.now) (c.new.ensures.rows ∙ zero)
