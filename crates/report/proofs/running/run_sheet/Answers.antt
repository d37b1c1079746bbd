use Rattle.std.proofs.Common.{◌≡◌, ◌++◌, map, length, sym, ap, ◌∙◌}
use lib.ListN.{length-map}
use Rattle.catalogue.specs.Refusals.{told}
use Rattle.line.specs.Refusals.{told as told_line}
use Rattle.report.specs.Reports.{opening, heading, report_from}
use Rattle.report.specs.Writing.{requests_in, answers_to, written_from}
use Rattle.report.proofs.Written.{answers_long, written_report}
use Rattle.report.proofs.running.run_sheet.Goals as goal
use Rattle.report.proofs.running.run_sheet.Goals.{After-as_slice-4}

-- the answers are the machine's, to the requests that the lines make
answers_are : (c : After-as_slice-4) → map told c.as_slice-4.result.now ≡ answers_to opening (requests_in (map told_line c.as_slice-3.result.now))
answers_are c = cc (c.in_ok-answers.ensures, c.in_ok-requests.ensures)

pub write_lines-requires : goal.write_lines-requires
write_lines-requires c =
    sym (length-map c.as_slice-4.result.now told) ∙ ap length (answers_are c) ∙ answers_long (requests_in (map told_line c.as_slice-3.result.now)) opening

pub returns : goal.returns
returns c =
    let es = map told_line c.as_slice-3.result.now in
    c.in_ok-write_lines.ensures
    ∙ ap (λ text. text ++ written_from 2 es (map told c.as_slice-4.result.now)) c.in_ok-text.ensures
    ∙ ap (λ answers. heading ++ written_from 2 es answers) (answers_are (goal.at.returns c).After-as_slice-4)
    ∙ ap (λ text. heading ++ text) (written_report es 2 opening)
    ∙ ap (λ lines. heading ++ report_from 2 opening lines) (ap (map told_line) c.as_slice-3.ensures.value ∙ c.in_ok-entries.ensures)
