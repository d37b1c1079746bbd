use Rattle.std.proofs.Common.{◌≡◌, ◌++◌, map, length, vec_items}
use Rattle.line.specs.Refusals.{told}
use Rattle.sheet.specs.Sheets.{entries, standing, sheet_entries}
use Rattle.sheet.proofs.listing.entries.Given as goal

-- what is collected, and what the lines left give, is all
abbrev pub invariant-loop-entry : goal.invariant-loop-entry
invariant-loop-entry l =
    map told (vec_items l.entries) ++ entries (standing l.reader).line (standing l.reader).left ≡ sheet_entries l.sheet

abbrev pub decreases-loop-entry : goal.decreases-loop-entry
decreases-loop-entry l = length (standing l.reader).left
