-- How a report is written: by the answers to all the calls of a sheet, which are taken one by one.
use Rattle.std.specs.Prelude.{ℕ, List, [], ◌∷◌, ◌++◌, drop, Some, None, slice_index_or}
use Rattle.catalogue.specs.declared.kind.counter.Counter.{Counter}
use Rattle.catalogue.specs.Kinds.{counter_packed, counter_unpacked}
use Rattle.sequencing.specs.declared.call.Call.{Call}
use Rattle.line.specs.Refusals.{Told}
use Rattle.sheet.specs.Sheets.{counted_on}
use Rattle.versioning.specs.declared.request.Request.{Request}
use Rattle.versioning.specs.Machine.{State, Answer}
use Rattle.cluster.specs.Runs.{replies}
use Rattle.report.specs.Lines.{Fields, answered, unread, line_text}

-- Requests that speak of counters, where they speak of values at all.
abbrev pub Requests : Type 0
Requests = List (Request Counter (Unit {0}))

-- The requests that lines make: a line from which a call could be read makes one.
abbrev pub requests_in : List (Told Call) → Requests
requests_in [] = []
requests_in (e ∷ es) = elim e.3 [ None ↦ requests_in es | Some call ↦ Request.Call call ∷ requests_in es ]

-- The machine's answers to requests.
abbrev pub answers_to : State → Requests → List (Answer Counter)
answers_to s qs = replies counter_packed (λ k r. counter_unpacked r) s qs

-- The report's line for what line n tells, by the first of the answers.
abbrev pub line_with : ℕ → Told Call → List (Answer Counter) → Fields
line_with n e answers =
    elim e.3 [ None ↦ unread e.0 e.1 e.2 | Some call ↦ answered n call (slice_index_or answers 0 (0, None)) ]

-- The answers that it leaves for the lines behind it.
abbrev pub rest_with : Told Call → List (Answer Counter) → List (Answer Counter)
rest_with e answers = elim e.3 [ None ↦ answers | Some call ↦ drop 1 answers ]

-- What is printed for lines by these answers.
abbrev pub written_from : ℕ → List (Told Call) → List (Answer Counter) → List ℕ
written_from n [] answers = []
written_from n (e ∷ es) answers = (line_text (line_with n e answers) ++ (10 ∷ [])) ++ written_from (counted_on n) es (rest_with e answers)
