-- Verdicts on copies as rows: not checked is (0, 0), failed (1, 0), passed (2, 0).
use Rattle.std.specs.Prelude.{ℕ, cond, Some, None, Option, ◌==◌}
use Rattle.catalogue.specs.declared.row.Row.{Row}
use Rattle.catalogue.specs.declared.kind.tape.Tape.{Tape}
use Rattle.housekeeping.specs.declared.verdict.Verdict.{Verdict}

-- The row of a verdict.
abbrev pub verdict_packed : Verdict → Row
verdict_packed Verdict.Unchecked = record { high = 0; low = 0 }
verdict_packed Verdict.Failed = record { high = 1; low = 0 }
verdict_packed Verdict.Passed = record { high = 2; low = 0 }

-- The verdict that a row is, if it is one.
abbrev pub verdict_unpacked : Row → Option Verdict
verdict_unpacked r =
    cond (r.low == 0)
    (cond (r.high == 0) (Some Verdict.Unchecked) (cond (r.high == 1) (Some Verdict.Failed) (cond (r.high == 2) (Some Verdict.Passed) None)))
    None

-- What becomes of the old tape by the verdict on a newer copy: only one that passed frees it, from the day on.
abbrev pub freed_by : Verdict → ℕ → Option Tape
freed_by Verdict.Unchecked day = None
freed_by Verdict.Failed day = None
freed_by Verdict.Passed day = Some (Tape.Reusable day)
