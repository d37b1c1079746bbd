-- The ledger: what requests and their answers tell, with no look at the machine's state. Transactions stand the newest first, so that those that began earlier are the tail.
use Rattle.std.specs.Prelude.{ℕ, cond, List, [], ◌∷◌, length, Some, None, ◌==◌}
use Rattle.catalogue.specs.declared.row.Row.{Row}
use Rattle.sequencing.specs.declared.call.Call.{Call}
use Rattle.versioning.specs.declared.operation.Operation.{Operation}
use Rattle.versioning.specs.declared.request.Request.{Request}
use Rattle.versioning.specs.declared.request.Outcome.{Outcome}
use Rattle.versioning.specs.Words.{Course, beginning, ask, advance}
use Rattle.versioning.specs.Machine.{Answer, History}

-- What a read gave: the row found, or the value of a kind to which it unpacks.
pub data Gave (V K : Type 0) : Type 0 where
  row : Row → Gave V K
  value : K → V → Gave V K

-- An accepted read: its transaction, how many operations that had asked before it, the place read, and what it gave.
pub record Reading (G : Type 0) : Type 0 where
  pub number : ℕ
  pub behind : ℕ
  pub table : ℕ
  pub row : ℕ
  pub gave : G

-- The transactions begun and the reads, each with the newest first.
pub record Ledger (G : Type 0) : Type 0 where
  pub begun : List Course
  pub readings : List (Reading G)

-- Before any request.
abbrev pub nothing : {G : Type 0} → Ledger G
nothing = record { begun = []; readings = [] }

-- The transaction k, numbered by how many began before it, and those before it.
abbrev pub from : ℕ → List Course → List Course
from k [] = []
from k (c ∷ earlier) = cond (length earlier == k) (c ∷ earlier) (from k earlier)

-- The transaction k changed.
abbrev pub amend : ℕ → (Course → Course) → List Course → List Course
amend k f [] = []
amend k f (c ∷ earlier) = cond (length earlier == k) (f c ∷ earlier) (c ∷ amend k f earlier)

-- How many operations the newest of the transactions has asked.
abbrev pub asked_by : List Course → ℕ
asked_by [] = 0
asked_by (c ∷ earlier) = length c.asked

module _ {G : Type 0} where
  -- The transactions changed.
  abbrev pub with_begun : List Course → Ledger G → Ledger G
  with_begun cs l = record { begun = cs; readings = l.readings }

  -- The transaction k reads the row r of the table t.
  abbrev pub with_reading : ℕ → ℕ → ℕ → G → Ledger G → Ledger G
  with_reading k t r g l =
      record { begun = l.begun; readings = record { number = k; behind = asked_by (from k l.begun); table = t; row = r; gave = g } ∷ l.readings }

module _ {V K : Type 0} where
  -- What the outcome of a read adds: of a call that reads a row, and of one that reads a value of a kind.
  abbrev pub enter_row : ℕ → ℕ → ℕ → Outcome V → Ledger (Gave V K) → Ledger (Gave V K)
  enter_row k t r (Outcome.Found x j) l = with_reading k t r (row x) l
  enter_row k t r (Outcome.Value x j) l = l
  enter_row k t r (Outcome.Begun n) l = l
  enter_row k t r Outcome.Accepted l = l

  abbrev pub enter_value : ℕ → ℕ → ℕ → K → Outcome V → Ledger (Gave V K) → Ledger (Gave V K)
  enter_value k t r kind (Outcome.Value x j) l = with_reading k t r (value kind x) l
  enter_value k t r kind (Outcome.Found x j) l = l
  enter_value k t r kind (Outcome.Begun n) l = l
  enter_value k t r kind Outcome.Accepted l = l

  -- What an accepted call adds.
  abbrev pub enter_call : Call → Outcome V → Ledger (Gave V K) → Ledger (Gave V K)
  enter_call (Call.Begin modes) o l = with_begun (beginning modes ∷ l.begun) l
  enter_call (Call.Write k t r v c) o l = with_begun (amend k (ask (Operation.Write t r v c)) l.begun) l
  enter_call (Call.Read k t r) o l = enter_row k t r o l
  enter_call (Call.Release k t) o l = with_begun (amend k (ask (Operation.Release t)) l.begun) l
  enter_call (Call.Commit k) o l = with_begun (amend k (ask Operation.Commit) l.begun) l
  enter_call (Call.Abort k) o l = with_begun (amend k (ask Operation.Abort) l.begun) l
  enter_call (Call.Step k j) o l = with_begun (amend k (advance j) l.begun) l

  module _ (pack : V → Row) where
    -- What an accepted request adds: a typed write is the write of its packing.
    abbrev pub enter : Request V K → Outcome V → Ledger (Gave V K) → Ledger (Gave V K)
    enter (Request.Call c) o l = enter_call c o l
    enter (Request.WriteAs k t r v c) o l = enter_call (Call.Write k t r (pack v) c) o l
    enter (Request.ReadAs k t r kind) o l = enter_value k t r kind o l

    -- A refused one adds nothing.
    abbrev pub note : Request V K → Answer V → Ledger (Gave V K) → Ledger (Gave V K)
    note q a l = elim a.1 [ None ↦ l | Some o ↦ enter q o l ]

    -- What a history adds, one request after the other.
    abbrev pub ledger : History V K → Ledger (Gave V K) → Ledger (Gave V K)
    ledger [] l = l
    ledger (x ∷ xs) l = ledger xs (note x.0 x.1 l)

    -- The transactions that a history tells of, and its reads.
    abbrev pub begun_in : History V K → List Course
    begun_in history = (ledger history nothing).begun

    abbrev pub reads_in : History V K → List (Reading (Gave V K))
    reads_in history = (ledger history nothing).readings
