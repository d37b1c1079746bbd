use Rattle.std.proofs.Common.{◌≡◌, drop}
use Rattle.line.specs.Columns.{columns_from}
use Rattle.line.specs.Lines.{lowest_used}
use Rattle.line.proofs.fields.Fields.unused_from.Given as goal

-- the columns before the place are empty
abbrev pub invariant-loop-unused : goal.invariant-loop-unused
invariant-loop-unused l = lowest_used l.self (drop l.unused-index l.unused-items) ≡ lowest_used l.self (columns_from l.fn.column)
