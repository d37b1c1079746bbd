-- That the machine's answers, written line by line, make the report.
use Rattle.std.proofs.Common.{◌≡◌, ℕ, suc, List, [], ◌∷◌, ◌++◌, length, Some, None, refl, ap}
use Rattle.catalogue.specs.declared.kind.counter.Counter.{Counter}
use Rattle.sequencing.specs.declared.call.Call.{Call}
use Rattle.line.specs.Refusals.{Told}
use Rattle.sheet.specs.Sheets.{counted_on}
use Rattle.versioning.specs.Machine.{State, call_reply, call_after}
use Rattle.report.specs.Lines.{answered, unread, line_text}
use Rattle.report.specs.Reports.{report_from}
use Rattle.report.specs.Writing.{Requests, requests_in, answers_to, written_from}

-- the machine's answers are as many as the requests
pub answers_long : (qs : Requests) (s : State) → length (answers_to s qs) ≡ length qs
answers_long [] s = refl
answers_long (q ∷ qs) s = ap suc (answers_long qs _)

-- and they make the report
pub written_report : (es : List (Told Call)) (n : ℕ) (s : State) → written_from n es (answers_to s (requests_in es)) ≡ report_from n s es
written_report [] n s = refl
written_report ((x, line, field, None) ∷ es) n s =
    ap (λ text. (line_text (unread x line field) ++ (10 ∷ [])) ++ text) (written_report es (counted_on n) s)
written_report ((x, line, field, Some call) ∷ es) n s =
    ap (λ text. (line_text (answered n call (call_reply {V = Counter} s call)) ++ (10 ∷ [])) ++ text) (written_report es (counted_on n) (call_after s call))
