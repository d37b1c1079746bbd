-- The report of a whole sheet.
use Rattle.std.specs.Prelude.{ℕ, List, [], ◌∷◌, ◌++◌, replicate, Some, None, codes}
use Rattle.catalogue.specs.declared.kind.counter.Counter.{Counter}
use Rattle.catalogue.specs.declared.row.Row.{Row}
use Rattle.catalogue.specs.Rows.{blank}
use Rattle.sequencing.specs.declared.call.Call.{Call}
use Rattle.line.specs.Refusals.{Told}
use Rattle.sheet.specs.Sheets.{counted_on, sheet_entries}
use Rattle.versioning.specs.Machine.{State, start, call_reply, call_after}
use Rattle.report.specs.Lines.{Fields, answered, unread, line_text}

-- The rows of a catalogue in which every row is zero.
unfoldable pub zero_rows : List Row
zero_rows = replicate 512 blank

-- The machine as it is opened for a sheet: three replicas of zero rows.
abbrev pub opening : State
opening = start 3 zero_rows

-- The report's line for what line n of the sheet tells, where the lines before it left the state s: the machine answers its call.
abbrev pub reported : ℕ → State → Told Call → Fields
reported n s e =
    elim e.3 [ None ↦ unread e.0 e.1 e.2 | Some call ↦ answered n call (call_reply {V = Counter} s call) ]

-- The state that it leaves.
abbrev pub left_by : State → Told Call → State
left_by s e = elim e.3 [ None ↦ s | Some call ↦ call_after s call ]

-- What is printed for lines of the sheet, one after the other, the first of them being line n.
abbrev pub report_from : ℕ → State → List (Told Call) → List ℕ
report_from n s [] = []
report_from n s (e ∷ es) = (line_text (reported n s e) ++ (10 ∷ [])) ++ report_from (counted_on n) (left_by s e) es

-- The line of names of a report.
abbrev pub heading : List ℕ
heading = codes "line,refusal,number,replica,high,low" ++ (10 ∷ [])

-- What is printed for a sheet. Its lines are counted from 1, and the first is the line of names.
abbrev pub report : List ℕ → List ℕ
report sheet = heading ++ report_from 2 opening (sheet_entries sheet)
