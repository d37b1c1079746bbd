-- Worked examples, over the definitions.
use Rattle.std.specs.Prelude.{◌≡◌, ℕ, ◌+◌, ◌*◌, ◌^◌, cond, List, [], ◌∷◌, ◌++◌, map, replicate, Some, None, ◌==◌, slice_index_or}
use Rattle.catalogue.specs.declared.row.Row.{Row}
use Rattle.catalogue.specs.declared.kind.counter.Counter.{Counter}
use Rattle.catalogue.specs.declared.kind.tape.Tape.{Tape}
use Rattle.catalogue.specs.Rows.{blank}
use Rattle.catalogue.specs.Kinds.{counter_packed, counter_unpacked, tape_packed, tape_unpacked}
use Rattle.sequencing.specs.declared.mode.Mode.{Mode}
use Rattle.sequencing.specs.declared.call.Call.{Call}
use Rattle.sequencing.specs.declared.sequencer.Assigned.{Assigned}
use Rattle.sequencing.specs.Modes.{tables}
use Rattle.versioning.specs.declared.family.pair.Either.{Either}
use Rattle.versioning.specs.declared.request.Request.{Request}
use Rattle.versioning.specs.declared.request.Outcome.{Outcome}
use Rattle.versioning.specs.Families.{either_packed, either_unpacked}
use Rattle.versioning.specs.Machine.{History, State, start, version, found, load, call_reply, call_after, answered}

-- The row (0, n); a counter n.
abbrev low : ℕ → Row
low n = record { high = 0; low = n }

abbrev counter : ℕ → Counter
counter n = record { 0 = n }

-- The declaration of the table t alone, and of the tables t and u.
abbrev only : ℕ → Mode → List Mode
only t m = tables (λ i. cond (i == t) m Mode.None)

abbrev both : ℕ → ℕ → Mode → List Mode
both t u m = tables (λ i. cond (i == t) m (cond (i == u) m Mode.None))

-- n replicas of zero rows; what they come to after calls; and the number of each call's answer, 0 where it is accepted.
abbrev opened : ℕ → State
opened n = start n (replicate 512 blank)

abbrev after_calls : State → List Call → State
after_calls s [] = s
after_calls s (c ∷ cs) = after_calls (call_after s c) cs

abbrev numbers : State → List Call → List ℕ
numbers s [] = []
numbers s (c ∷ cs) = (call_reply {V = Row} s c).0 ∷ numbers (call_after s c) cs

-- What transactions are assigned that access one table, one after the other.
abbrev accesses : List Mode → List Assigned
accesses modes =
    map (λ x. slice_index_or x.assigned 0 Assigned.None) (after_calls (opened 1) (map (λ m. Call.Begin (only 0 m)) modes)).unfinished

-- Transaction 0 declares table 2 for writing, transaction 1 for reading. 1 commits and is stepped at replica 0; again when 0 has committed; again when 0's end has run there.
abbrev writer_then_reader : List Call
writer_then_reader =
    Call.Begin (only 2 Mode.Write)
    ∷ Call.Begin (only 2 Mode.Read)
    ∷ Call.Commit 1
    ∷ Call.Step 1 0
    ∷ Call.Commit 0
    ∷ Call.Step 1 0
    ∷ Call.Step 0 0
    ∷ Call.Step 1 0
    ∷ []

-- Two readers of table 3 end at replica 0, the one given first.
abbrev two_readers : ℕ → ℕ → List Call
two_readers first second =
    Call.Begin (only 3 Mode.Read)
    ∷ Call.Begin (only 3 Mode.Read)
    ∷ Call.Commit 0
    ∷ Call.Commit 1
    ∷ Call.Step first 0
    ∷ Call.Step second 0
    ∷ []

-- A row is written and committed; another transaction overwrites it, once and a second time, and aborts.
abbrev overwritten : List Call
overwritten =
    Call.Begin (only 4 Mode.Write)
    ∷ Call.Write 0 4 9 (low 3) 0
    ∷ Call.Commit 0
    ∷ Call.Step 0 0
    ∷ Call.Step 0 0
    ∷ Call.Begin (only 4 Mode.Write)
    ∷ Call.Write 1 4 9 (low 5) 0
    ∷ Call.Write 1 4 9 (low 8) 0
    ∷ Call.Step 1 0
    ∷ []

abbrev then_aborted : List Call
then_aborted = Call.Step 1 0 ∷ Call.Abort 1 ∷ Call.Step 1 0 ∷ []

-- A reader of table 0 beside a writer of table 1, whose write waits at both replicas.
abbrev loaded : List Call
loaded = Call.Begin (only 0 Mode.Read) ∷ Call.Begin (only 1 Mode.Write) ∷ Call.Write 1 1 0 (low 1) 7 ∷ []

-- Counters and tapes as one family, and a run of typed and untyped requests over two replicas.
abbrev Value : Type 0
Value = Either Counter Tape

abbrev Kind : Type 0
Kind = Either (Unit {0}) (Unit {0})

abbrev mixed : History Value Kind
mixed =
    (Request.Call (Call.Begin (both 0 1 Mode.Write)), (0, Some (Outcome.Begun 0)))
    ∷ (Request.WriteAs 0 0 5 (Either.First (counter 7)) 3, (0, Some Outcome.Accepted))
    ∷ (Request.WriteAs 0 1 6 (Either.Second (Tape.Holding 2 9)) 0, (0, Some Outcome.Accepted))
    ∷ (Request.ReadAs 0 0 5 (Either.First tt), (13, None))
    ∷ (Request.Call (Call.Step 0 1), (0, Some Outcome.Accepted))
    ∷ (Request.ReadAs 0 0 5 (Either.First tt), (0, Some (Outcome.Value (Either.First (counter 7)) 1)))
    ∷ (Request.ReadAs 0 0 5 (Either.Second tt), (18, None))
    ∷ (Request.Call (Call.Read 0 0 5), (0, Some (Outcome.Found (low 7) 1)))
    ∷ (Request.Call (Call.Commit 0), (0, Some Outcome.Accepted))
    ∷ (Request.Call (Call.Step 0 1), (0, Some Outcome.Accepted))
    ∷ (Request.Call (Call.Step 0 1), (0, Some Outcome.Accepted))
    ∷ (Request.Call (Call.Step 0 1), (16, None))
    ∷ (Request.Call (Call.Begin (both 0 1 Mode.Read)), (0, Some (Outcome.Begun 1)))
    ∷ (Request.ReadAs 1 1 6 (Either.Second tt), (0, Some (Outcome.Value (Either.Second (Tape.Holding 2 9)) 1)))
    ∷ (Request.Call (Call.Read 1 1 6), (0, Some (Outcome.Found (record { high = 1; low = 2 * 2 ^ 32 + 9 }) 1)))
    ∷ (Request.Call (Call.Write 1 1 6 blank 0), (10, None))
    ∷ []

pub record WorkedExamples : Type 0 where
  -- one table accessed w w r w r r r w gives 0 1 2 3 4 4 4 7, and with two reads before the last write that gets 6
  pub assigned : accesses (Mode.Write ∷ Mode.Write ∷ Mode.Read ∷ Mode.Write ∷ Mode.Read ∷ Mode.Read ∷ Mode.Read ∷ Mode.Write ∷ []) ≡ Assigned.Write 0 ∷ Assigned.Write 1 ∷ Assigned.Read 2 ∷ Assigned.Write 3 ∷ Assigned.Read 4 ∷ Assigned.Read 4 ∷ Assigned.Read 4 ∷ Assigned.Write 7 ∷ []
  pub assigned_after_two : accesses (Mode.Write ∷ Mode.Write ∷ Mode.Read ∷ Mode.Write ∷ Mode.Read ∷ Mode.Read ∷ Mode.Write ∷ []) ≡ Assigned.Write 0 ∷ Assigned.Write 1 ∷ Assigned.Read 2 ∷ Assigned.Write 3 ∷ Assigned.Read 4 ∷ Assigned.Read 4 ∷ Assigned.Write 6 ∷ []
  -- the reader's step gives 17 until the writer's end has run there; after both ends the version is 2
  pub held_back : numbers (opened 1) writer_then_reader ≡ 0 ∷ 0 ∷ 0 ∷ 17 ∷ 0 ∷ 17 ∷ 0 ∷ 0 ∷ []
  pub both_ended : version (after_calls (opened 1) writer_then_reader) 0 2 ≡ 2
  -- two readers may end in either order
  pub first_ends_first : numbers (opened 1) (two_readers 0 1) ≡ 0 ∷ 0 ∷ 0 ∷ 0 ∷ 0 ∷ 0 ∷ []
  pub second_ends_first : numbers (opened 1) (two_readers 1 0) ≡ 0 ∷ 0 ∷ 0 ∷ 0 ∷ 0 ∷ 0 ∷ []
  -- table 7, row 63, class 7 is written; row 64 gives 8, class 8 gives 9
  pub last_place : found (after_calls (opened 1) (Call.Begin (only 7 Mode.Write) ∷ Call.Write 0 7 63 (low 1) 7 ∷ Call.Step 0 0 ∷ [])) 0 7 63 ≡ low 1
  pub past_it : numbers (opened 1) (Call.Begin (only 7 Mode.Write) ∷ Call.Write 0 7 63 (low 1) 7 ∷ Call.Write 0 7 64 (low 1) 7 ∷ Call.Write 0 7 63 (low 1) 8 ∷ []) ≡ 0 ∷ 0 ∷ 8 ∷ 9 ∷ []
  -- a writer's read before any replica ran its write gives 13
  pub unwritten_yet : numbers (opened 2) (Call.Begin (only 1 Mode.Write) ∷ Call.Write 0 1 0 (low 1) 0 ∷ Call.Read 0 1 0 ∷ Call.Step 0 1 ∷ Call.Read 0 1 0 ∷ []) ≡ 0 ∷ 0 ∷ 13 ∷ 0 ∷ 0 ∷ []
  -- after the release of a table declared for writing, abort gives 14 and commit is accepted
  pub no_recall : numbers (opened 1) (Call.Begin (only 6 Mode.Write) ∷ Call.Release 0 6 ∷ Call.Abort 0 ∷ Call.Commit 0 ∷ []) ≡ 0 ∷ 0 ∷ 14 ∷ 0 ∷ []
  -- a row 3 overwritten by 5, and then by 8, and aborted is 3 again
  pub overwritten_once : found (after_calls (opened 1) overwritten) 0 4 9 ≡ low 5
  pub restored : found (after_calls (opened 1) (overwritten ++ then_aborted)) 0 4 9 ≡ low 3
  -- of replicas of equal load the lowest is read; once the other has executed a write of class 7, it has 34 less to do and is read
  pub lowest_of_equals : call_reply {V = Row} (after_calls (opened 2) loaded) (Call.Read 0 0 0) ≡ (0, Some (Outcome.Found blank 0))
  pub least_loaded : call_reply {V = Row} (after_calls (opened 2) (loaded ++ (Call.Step 1 1 ∷ []))) (Call.Read 0 0 0) ≡ (0, Some (Outcome.Found blank 1))
  pub load_left : load (after_calls (opened 2) (loaded ++ (Call.Step 1 1 ∷ []))) 0 ≡ 34
  -- a counter 7 is (0, 7), and (1, 7) is no counter; (2, 4,294,967,296) is no tape
  pub counter_is : counter_packed (counter 7) ≡ low 7
  pub no_counter : counter_unpacked (record { high = 1; low = 7 }) ≡ None
  pub no_tape : tape_unpacked (record { high = 2; low = 4294967296 }) ≡ None
  -- typed and untyped requests in one run, each with its answer
  pub mixed_run : answered (either_packed counter_packed tape_packed) (either_unpacked (λ k. counter_unpacked) (λ k. tape_unpacked)) (opened 2) (map (λ x. x.0) mixed) ≡ mixed
