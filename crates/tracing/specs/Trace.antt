-- The accesses to one table, in order of beginning: what each is assigned, told without the sequencer.
use Rattle.std.specs.Prelude.{◌≡◌, ℕ, ◌+◌, cond, List, [], ◌∷◌, ◌++◌, length, codes, decimal, Some, None, Option, ◌==◌, nat_lt}
use Rattle.catalogue.specs.declared.refusal.Refusal.{Refusal}
use Rattle.catalogue.specs.Refusals.{number, unless_refused}
use Rattle.sequencing.specs.declared.mode.Mode.{Mode}
use Rattle.sequencing.specs.declared.sequencer.Next.{Next}
use Rattle.sequencing.specs.declared.sequencer.Assigned.{Assigned}
use Rattle.tracing.specs.declared.trace.Letter.{Letter}
use Rattle.tracing.specs.declared.trace.Traced.{Traced}
use Rattle.tracing.specs.declared.trace.Stop.{Stop}
use Rattle.sequencing.specs.Sequencer.{Counts, assigned, moved_on, next_at, begin_refusal, begin_after}

-- The letter r stands for an access that reads, w for one that writes; a line feed ends the line.
abbrev pub letter_of : ℕ → Letter
letter_of b = cond (b == 114) (Letter.Access Mode.Read) (cond (b == 119) (Letter.Access Mode.Write) (cond (b == 10) Letter.LineEnd Letter.Unknown))

-- The declaration of table 0 alone.
abbrev pub only : Mode → List Mode
only m = m ∷ Mode.None ∷ Mode.None ∷ Mode.None ∷ Mode.None ∷ Mode.None ∷ Mode.None ∷ Mode.None ∷ []

-- What the sequencer answers to it, at table 0.
abbrev pub access_reply : Counts → Mode → ℕ × Option Traced
access_reply c m =
    unless_refused (begin_refusal c (only m)) (record { assigned = assigned m (next_at c.next 0); next = moved_on m (next_at c.next 0) })

-- A byte that is an access is traced as the sequencer answers, which then stands after it.
pub record Steps (c : Counts) (b : ℕ) (x : Traced) (after : Counts) : Type 0 where
  pub mode : Mode
  pub letter : letter_of b ≡ Letter.Access mode
  pub answer : (0, Some x) ≡ access_reply c mode
  pub moved : after ≡ begin_after c (only mode)

-- A byte at which the trace ends, with its position: a line feed, a byte that is no access, or an access that the sequencer refuses.
abbrev pub Stops : Counts → ℕ → ℕ → Stop → Type 0
Stops c b p Stop.LineEnd = letter_of b ≡ Letter.LineEnd
Stops c b p (Stop.Unknown q d) = (letter_of b ≡ Letter.Unknown) × (q ≡ p) × (d ≡ b)
Stops c b p (Stop.Refused q r) = (m : Mode) × (letter_of b ≡ Letter.Access m) × (q ≡ p) × ((number r, None) ≡ access_reply c m)

-- How many accesses came up to the latest write, which is counted too; the newest access stands first.
abbrev pub through_last_write : List Mode → ℕ
through_last_write [] = 0
through_last_write (Mode.None ∷ earlier) = through_last_write earlier
through_last_write (Mode.Read ∷ earlier) = through_last_write earlier
through_last_write (Mode.Write ∷ earlier) = length earlier + 1

-- The table's counters after these accesses: a writer is numbered by all before it, a reader by those up to the latest write.
abbrev pub counters : List Mode → Next
counters earlier = record { read = through_last_write earlier; write = length earlier }

-- An access of the mode after the earlier ones.
abbrev pub traced : Mode → List Mode → Traced
traced m earlier = record { assigned = assigned m (counters earlier); next = counters (m ∷ earlier) }

-- One access more at the front of a trace.
abbrev pub preceded : Traced → List Traced × Stop → List Traced × Stop
preceded x t = (x ∷ t.0, t.1)

-- The trace of a line that follows the earlier accesses: its accesses with what they are assigned, and what ends it.
abbrev pub trace_of : List Mode → List ℕ → List Traced × Stop
trace_of earlier [] = ([], Stop.LineEnd)
trace_of earlier (b ∷ bs) =
    elim (letter_of b) [
      | Letter.Access m ↦ cond (nat_lt (length earlier) 1000000) (preceded (traced m earlier) (trace_of (m ∷ earlier) bs)) ([], Stop.Refused (length earlier + 1) Refusal.TooManyBegun)
      | Letter.LineEnd ↦ ([], Stop.LineEnd)
      | Letter.Unknown ↦ ([], Stop.Unknown (length earlier + 1) b)
    ]

-- The letter of an access, and its number.
abbrev pub number_text : Assigned → List ℕ
number_text Assigned.None = codes "n,"
number_text (Assigned.Read n) = codes "r," ++ decimal n
number_text (Assigned.Write n) = codes "w," ++ decimal n

-- A traced access as text: its letter, its number, next-for-read and next-for-write.
abbrev pub traced_text : Traced → List ℕ
traced_text x = number_text x.assigned ++ (codes "," ++ (decimal x.next.read ++ (codes "," ++ decimal x.next.write)))

-- What ended a trace, as text.
abbrev pub stop_text : Stop → List ℕ
stop_text Stop.LineEnd = codes "end of the line"
stop_text (Stop.Unknown p b) = codes "position " ++ (decimal p ++ (codes ": byte " ++ (decimal b ++ codes " is neither r nor w")))
stop_text (Stop.Refused p r) = codes "position " ++ (decimal p ++ (codes ": refused with " ++ decimal (number r)))
