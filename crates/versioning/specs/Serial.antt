-- The serial run, and what holds of every run of the machine: its answers are those of the serial run.
use Rattle.std.specs.Prelude.{◌≡◌, ℕ, ◌<◌, Bool, true, false, cond, not, ◌&&◌, ◌↔◌, List, [], ◌∷◌, ◌++◌, length, take, replicate, Some, Option, slice_index_or, slice_set}
use Rattle.std.specs.List.{AllByRecursion}
use Rattle.catalogue.specs.declared.row.Row.{Row}
use Rattle.catalogue.specs.declared.refusal.Refusal.{Refusal}
use Rattle.catalogue.specs.Refusals.{number}
use Rattle.catalogue.specs.Rows.{blank, place}
use Rattle.catalogue.specs.Replicated.{catalogue_of}
use Rattle.sequencing.specs.declared.call.Call.{Call}
use Rattle.sequencing.specs.Modes.{some}
use Rattle.versioning.specs.declared.operation.Operation.{Operation}
use Rattle.versioning.specs.declared.request.Request.{Request}
use Rattle.versioning.specs.declared.request.Outcome.{Outcome}
use Rattle.versioning.specs.Words.{some_below, conflict, ended, aborted, Course, mode, done, waiting, waits, next, has_let_go, has_table}
use Rattle.versioning.specs.Machine.{Answer, History, State, start, rows_of, reply, answered, final}
use Rattle.versioning.specs.Ledger.{Gave, row, value, Reading, Ledger, nothing, from, ledger, begun_in, reads_in}

-- One catalogue after the writes among the operations, in their order.
abbrev pub written : List Operation → List Row → List Row
written [] rows = rows
written (Operation.Write t r v c ∷ ops) rows = written ops (slice_set rows (place t r) v)
written (Operation.Release t ∷ ops) rows = written ops rows
written (Operation.Commit ∷ ops) rows = written ops rows
written (Operation.Abort ∷ ops) rows = written ops rows

-- The serial run: one catalogue, and the transactions whole, one after the other in the order in which they began. An aborted one leaves every row as it was before it; an open one counts with what it has asked so far.
abbrev pub serial : List Row → List Course → List Row
serial opening [] = opening
serial opening (c ∷ earlier) = cond (aborted c.asked) (serial opening earlier) (written c.asked (serial opening earlier))

-- What a read gave agrees with a row: it is that row, or a value to which that row unpacks.
abbrev pub Agrees : {V K : Type 0} → (K → Row → Option V) → Gave V K → Row → Type 0
Agrees unpack (row x) found = found ≡ x
Agrees unpack (value kind x) found = unpack kind found ≡ Some x

-- A read finds, in the serial run, the row that stands after the earlier transactions whole and after the writes that its own transaction asked before it.
abbrev pub Finds : {G : Type 0} → (G → Row → Type 0) → List Row → Reading G → List Course → Type 0
Finds agrees opening rd [] = ⊥
Finds agrees opening rd (c ∷ earlier) =
    agrees rd.gave (slice_index_or (written (take rd.behind c.asked) (serial opening earlier)) (place rd.table rd.row) blank)

-- At the replica j nothing waits.
abbrev pub NothingWaits : ℕ → List Course → Type 0
NothingWaits j begun = some (λ c. waits c j) begun ≡ false

-- An earlier transaction conflicts with c at the table t, and has not let go of that table at the replica j.
abbrev pub blocked : ℕ → Course → List Course → ℕ → Bool
blocked j c earlier t = some (λ e. conflict (mode c t) (mode e t) && not (has_let_go e j t)) earlier

-- And that at one of the tables of the next operation of c at j.
abbrev pub held_back : ℕ → Course → List Course → Bool
held_back j c earlier = some_below 8 (λ t. has_table c (done c j) (next c j) t && blocked j c earlier t)

-- The refusal of a step at j of the first of these transactions, which the others precede: where an operation of it waits there, it is 17 exactly when that is held back.
abbrev pub HeldBackRightly : ℕ → ℕ → List Course → Type 0
HeldBackRightly j refusal [] = Unit {0}
HeldBackRightly j refusal (c ∷ earlier) =
    waits c j ≡ true → (refusal ≡ number Refusal.HeldBack) ↔ (held_back j c earlier ≡ true)

module _ {V K : Type 0} (pack : V → Row) (unpack : K → Row → Option V) where
  -- What is promised of the opening rows, a history, and the rows that each replica holds at its end.
  pub record InSerialOrder (opening : List Row) (history : History V K) (catalogues : List (List Row)) : Type 0 where
    -- every row or value read is the one that the read finds in the serial run
    pub reads : AllByRecursion (λ rd. Finds (Agrees unpack) opening rd (from rd.number (begun_in pack history))) (reads_in pack history)
    -- a replica at which nothing waits holds exactly the rows with which the serial run ends
    pub rows : (j : ℕ) → j < length catalogues → NothingWaits j (begun_in pack history) → catalogue_of catalogues j ≡ serial opening (begun_in pack history)
    -- a step of an operation that waits is refused with 17 exactly when an earlier transaction conflicts with it and has not let go
    pub steps : (before behind : History V K) (k j : ℕ) (a : Answer V) → history ≡ before ++ ((Request.Call (Call.Step k j), a) ∷ behind) → j < length catalogues → HeldBackRightly j a.0 (from k (begun_in pack before))

  -- Serial order: so it is in every run from the opening, whatever the requests, the refused ones included.
  abbrev pub SerialOrder : Type 0
  SerialOrder =
      (opening : List Row) (replicas : ℕ) (requests : List (Request V K)) →
      length opening ≡ 512 →
      InSerialOrder opening (answered pack unpack (start replicas opening) requests) (rows_of (final pack unpack (start replicas opening) requests).replicas)

  -- The oldest transaction that is unfinished at a replica is never held back there: after every run, a step at j of a transaction of which an operation waits there, and before which every one has executed its end there, is accepted.
  abbrev pub OldestNeverHeldBack : Type 0
  OldestNeverHeldBack =
      (opening : List Row) (replicas : ℕ) (requests : List (Request V K)) (j : ℕ) (later : List Course) (c : Course) (earlier : List Course) →
      length opening ≡ 512 →
      j < replicas →
      begun_in pack (answered pack unpack (start replicas opening) requests) ≡ later ++ (c ∷ earlier) →
      waits c j ≡ true →
      some (λ e. not (ended (done e j))) earlier ≡ false →
      reply pack unpack (final pack unpack (start replicas opening) requests) (Request.Call (Call.Step (length earlier) j)) ≡ (0, Some Outcome.Accepted)

-- The steps at the replica j of the oldest transaction as often as its operations wait there, then of the next.
abbrev pub catching_up : {V K : Type 0} → ℕ → List Course → List (Request V K)
catching_up j [] = []
catching_up j (c ∷ earlier) =
    catching_up j earlier ++ replicate (length (waiting c j)) (Request.Call (Call.Step (length earlier) j))

module _ {V K : Type 0} (pack : V → Row) (unpack : K → Row → Option V) where
  -- What these steps do from a state that the ledger tells of: each is accepted, then nothing waits at the replica, and it holds the rows with which the serial run ends.
  pub record CatchesUp (opening : List Row) (j : ℕ) (s : State) (l : Ledger (Gave V K)) : Type 0 where
    pub accepted : AllByRecursion (λ x. x.1 ≡ (0, Some Outcome.Accepted)) (answered pack unpack s (catching_up j l.begun))
    pub empty : NothingWaits j (ledger pack (answered pack unpack s (catching_up j l.begun)) l).begun
    pub rows : catalogue_of (rows_of (final pack unpack s (catching_up j l.begun)).replicas) j ≡ serial opening l.begun

  -- So it is after every run that leaves no transaction open.
  abbrev pub AlwaysCatchesUp : Type 0
  AlwaysCatchesUp =
      (opening : List Row) (replicas : ℕ) (requests : List (Request V K)) (j : ℕ) →
      length opening ≡ 512 →
      j < replicas →
      some (λ c. not (ended c.asked)) (begun_in pack (answered pack unpack (start replicas opening) requests)) ≡ false →
      CatchesUp opening j (final pack unpack (start replicas opening) requests) (ledger pack (answered pack unpack (start replicas opening) requests) nothing)
