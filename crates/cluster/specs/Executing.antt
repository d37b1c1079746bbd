-- The parts of an execution: what a write names, what it replaces, and what is kept of that.
use Rattle.std.specs.Prelude.{ℕ, ◌-◌, ◌<◌, List, [], slice_index_or}
use Rattle.catalogue.specs.declared.row.Row.{Row}
use Rattle.catalogue.specs.Rows.{blank, place}
use Rattle.versioning.specs.declared.operation.Operation.{Operation}
use Rattle.versioning.specs.Words.{updated, advance, next}
use Rattle.versioning.specs.Machine.{Transaction as Unfinished}
use Rattle.cluster.specs.declared.transaction.Transaction.{Transaction}
use Rattle.cluster.specs.Orderly.{progress_at, executed_at}
use Rattle.cluster.specs.Transactions.{replaced_by}

-- What a write names is a place of the catalogue.
abbrev pub InRange : Operation → Type 0
InRange (Operation.Write t r v c) = (t < 8) × (r < 64)
InRange (Operation.Release t) = Unit {0}
InRange Operation.Commit = Unit {0}
InRange Operation.Abort = Unit {0}

-- The row that an operation replaces among these rows: only a write does.
abbrev pub replaced_row : Operation → List Row → Row
replaced_row (Operation.Write t r v c) rows = slice_index_or rows (place t r) blank
replaced_row (Operation.Release t) rows = blank
replaced_row Operation.Commit rows = blank
replaced_row Operation.Abort rows = blank

-- What the operation replaced at the replica j that was the last executed there but so many: its place and its row, or none.
abbrev pub newest_replaced : Transaction → ℕ → ℕ → List (ℕ × Row)
newest_replaced x j turn =
    let n = executed_at x.progress j - 1 - turn in
    replaced_by (slice_index_or x.asked.items n Operation.Commit) (slice_index_or (progress_at x.progress j).replaced.items n blank) []

-- The transaction after its next operation at the replica j, which replaced the row old.
abbrev pub advanced : Unfinished → ℕ → Row → Unfinished
advanced x j old =
    record { number = x.number; assigned = x.assigned; course = advance j x.course; replaced = updated j (replaced_by (next x.course j) old (x.replaced j)) x.replaced }
