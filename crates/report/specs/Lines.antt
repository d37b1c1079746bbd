-- One line of a report, and its text.
use Rattle.std.specs.Prelude.{ℕ, List, [], ◌∷◌, ◌++◌, Some, None, codes, decimal, Option}
use Rattle.catalogue.specs.declared.refusal.Refusal.{Refusal}
use Rattle.catalogue.specs.Refusals.{number}
use Rattle.sequencing.specs.declared.call.Call.{Call}
use Rattle.versioning.specs.declared.request.Outcome.{Outcome}
use Rattle.versioning.specs.Machine.{Answer}
use Rattle.report.specs.declared.report_line.ReportLine.{ReportLine}

-- What stands in a line: its number, the refusal's (0: accepted), and four fields each of which may be empty.
pub record Fields : Type 0 where
  pub line : ℕ
  pub refusal : ℕ
  pub number : Option ℕ
  pub replica : Option ℕ
  pub high : Option ℕ
  pub low : Option ℕ

-- The number of a refusal, 0 for none.
abbrev pub refusal_told : Option Refusal → ℕ
refusal_told None = 0
refusal_told (Some r) = number r

-- The fields of a line as the program has it.
abbrev pub fields_of : ReportLine → Fields
fields_of x =
    record { line = x.line; refusal = refusal_told x.refusal; number = x.number; replica = x.replica; high = x.high; low = x.low }

-- The transaction that a call names: every call but a begin does.
abbrev pub named : Call → Option ℕ
named (Call.Begin modes) = None
named (Call.Write k t r v c) = Some k
named (Call.Read k t r) = Some k
named (Call.Release k t) = Some k
named (Call.Commit k) = Some k
named (Call.Abort k) = Some k
named (Call.Step k j) = Some k

-- The replica at which a call is a step.
abbrev pub stepped : Call → Option ℕ
stepped (Call.Begin modes) = None
stepped (Call.Write k t r v c) = None
stepped (Call.Read k t r) = None
stepped (Call.Release k t) = None
stepped (Call.Commit k) = None
stepped (Call.Abort k) = None
stepped (Call.Step k j) = Some j

-- A line that is accepted, and whose other fields are empty.
abbrev pub blank : ℕ → Fields
blank n = record { line = n; refusal = 0; number = None; replica = None; high = None; low = None }

-- An accepted call: a begin has its number from the outcome, a read the replica and the row. No call of a sheet has a typed outcome; it would have the replica alone.
abbrev pub accepted : {V : Type 0} → ℕ → Call → Outcome V → Fields
accepted n call Outcome.Accepted = record (blank n) { number = named call; replica = stepped call }
accepted n call (Outcome.Begun k) = record (blank n) { number = Some k }
accepted n call (Outcome.Found x j) =
    record (blank n) { number = named call; replica = Some j; high = Some x.high; low = Some x.low }
accepted n call (Outcome.Value v j) = record (blank n) { number = named call; replica = Some j }

-- A refused call: the refusal's number, and the transaction that the call names.
abbrev pub refused : ℕ → Call → ℕ → Fields
refused n call refusal = record (blank n) { refusal = refusal; number = named call }

-- Line n of the sheet, by its call and the answer to it.
abbrev pub answered : {V : Type 0} → ℕ → Call → Answer V → Fields
answered n call a = elim a.1 [ None ↦ refused n call a.0 | Some outcome ↦ accepted n call outcome ]

-- A line from which no call could be read: its refusal, and its field under low.
abbrev pub unread : ℕ → ℕ → ℕ → Fields
unread refusal n field = record (blank n) { refusal = refusal; low = Some field }

-- A field as text.
abbrev pub cell_text : Option ℕ → List ℕ
cell_text None = []
cell_text (Some n) = decimal n

-- The fields behind the line's number, in their order.
abbrev pub behind_the_line : Fields → List (Option ℕ)
behind_the_line x = Some x.refusal ∷ x.number ∷ x.replica ∷ x.high ∷ x.low ∷ []

-- Fields as text, each behind a comma.
abbrev pub cells_text : List (Option ℕ) → List ℕ
cells_text [] = []
cells_text (x ∷ xs) = codes "," ++ (cell_text x ++ cells_text xs)

-- A line as text, without the line feed.
abbrev pub line_text : Fields → List ℕ
line_text x = decimal x.line ++ cells_text (behind_the_line x)
