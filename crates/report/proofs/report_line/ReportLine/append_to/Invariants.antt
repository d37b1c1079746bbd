use Rattle.std.proofs.Common.{◌≡◌, ◌++◌, drop, vec_items}
use Rattle.report.specs.Lines.{cells_text}
use Rattle.report.proofs.report_line.ReportLine.append_to.Given as goal

-- the cells that are left give the rest of the text
abbrev pub invariant-loop-cell : goal.invariant-loop-cell
invariant-loop-cell l =
    vec_items l.text ++ cells_text (drop l.cell-index l.cell-items) ≡ vec_items l.initial.text ++ cells_text l.cell-items
