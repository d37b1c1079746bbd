-- The sequencer: what a table's counters give to an access, and what a beginning transaction is assigned.
use Rattle.std.specs.Prelude.{ℕ, ◌+◌, cond, not, List, [], ◌∷◌, Option, ◌==◌, nat_lt, slice_index_or}
use Rattle.catalogue.specs.declared.refusal.Refusal.{Refusal}
use Rattle.catalogue.specs.Refusals.{first, unless_refused}
use Rattle.sequencing.specs.declared.mode.Mode.{Mode}
use Rattle.sequencing.specs.declared.sequencer.Next.{Next}
use Rattle.sequencing.specs.declared.sequencer.Assigned.{Assigned}
use Rattle.sequencing.specs.declared.sequencer.Begun.{Begun}
use Rattle.sequencing.specs.declared.sequencer.Sequencer.{Sequencer}
use Rattle.sequencing.specs.Modes.{declares_any, tables}

-- A table that nobody has declared yet.
abbrev pub nothing_yet : Next
nothing_yet = record { read = 0; write = 0 }

-- A reader is assigned next-for-read, a writer next-for-write, who does not declare the table nothing.
abbrev pub assigned : Mode → Next → Assigned
assigned Mode.None n = Assigned.None
assigned Mode.Read n = Assigned.Read n.read
assigned Mode.Write n = Assigned.Write n.write

-- A reader adds one to next-for-write; a writer does so too, and sets next-for-read to the new value.
abbrev pub moved_on : Mode → Next → Next
moved_on Mode.None n = n
moved_on Mode.Read n = record { read = n.read; write = n.write + 1 }
moved_on Mode.Write n = record { read = n.write + 1; write = n.write + 1 }

-- The table t in a list of modes, and in a list of counters.
abbrev pub mode_at : List Mode → ℕ → Mode
mode_at modes t = slice_index_or modes t Mode.None

abbrev pub next_at : List Next → ℕ → Next
next_at next t = slice_index_or next t nothing_yet

-- What all eight tables give at once.
abbrev pub all_assigned : List Mode → List Next → List Assigned
all_assigned modes next = tables (λ t. assigned (mode_at modes t) (next_at next t))

-- Where all eight tables stand after it.
abbrev pub all_moved_on : List Mode → List Next → List Next
all_moved_on modes next = tables (λ t. moved_on (mode_at modes t) (next_at next t))

-- How many transactions have begun, and the counters of each table.
pub record Counts : Type 0 where
  pub begun : ℕ
  pub next : List Next

-- The state of a sequencer.
abbrev pub counts_of : Sequencer → Counts
counts_of s = record { begun = s.begun; next = s.next }

-- Before any transaction.
abbrev pub fresh : Counts
fresh = record { begun = 0; next = tables (λ t. nothing_yet) }

-- The counters of a table; a table above 7 is refused.
abbrev pub next_reply : Counts → ℕ → ℕ × Option Next
next_reply c t = unless_refused (first ((not (nat_lt t 8), Refusal.TableOutOfRange) ∷ [])) (next_at c.next t)

-- A declaration of no table is refused, and so is every one after a million.
abbrev pub begin_refusal : Counts → List Mode → ℕ
begin_refusal c modes =
    first ((not (declares_any modes), Refusal.NothingDeclared) ∷ (not (nat_lt c.begun 1000000), Refusal.TooManyBegun) ∷ [])

-- Else the transaction is numbered from 0 in the order of beginning, and assigned a number at each table that it declares.
abbrev pub admitted : Counts → List Mode → Begun
admitted c modes = record { number = c.begun; assigned = all_assigned modes c.next }

abbrev pub admitted_after : Counts → List Mode → Counts
admitted_after c modes = record { begun = c.begun + 1; next = all_moved_on modes c.next }

-- What begin answers, and what it leaves: a refused call changes nothing.
abbrev pub begin_reply : Counts → List Mode → ℕ × Option Begun
begin_reply c modes = unless_refused (begin_refusal c modes) (admitted c modes)

abbrev pub begin_after : Counts → List Mode → Counts
begin_after c modes = cond (begin_refusal c modes == 0) (admitted_after c modes) c
