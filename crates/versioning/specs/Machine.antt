-- The machine: its state, and what each call answers and leaves.
use Rattle.std.specs.Prelude.{◌≡◌, ℕ, zero, suc, ◌+◌, ◌<◌, ◌≤◌, Bool, true, false, cond, not, ◌&&◌, ◌↔◌, List, [], ◌∷◌, ◌++◌, length, replicate, is_some, Some, None, sum_by, Option, ◌==◌, nat_le, nat_lt, slice_index, slice_index_or, slice_set}
use Rattle.std.specs.Option.{unwrap_or, option_map}
use Rattle.catalogue.specs.declared.row.Row.{Row}
use Rattle.catalogue.specs.declared.refusal.Refusal.{Refusal}
use Rattle.catalogue.specs.Refusals.{number, first, unless_refused}
use Rattle.catalogue.specs.Rows.{blank, place, place_checks}
use Rattle.catalogue.specs.Kinds.{value_reply}
use Rattle.sequencing.specs.declared.mode.Mode.{Mode}
use Rattle.sequencing.specs.declared.sequencer.Assigned.{Assigned}
use Rattle.sequencing.specs.declared.call.Call.{Call}
use Rattle.sequencing.specs.Modes.{declares, declares_any, some, tables}
use Rattle.sequencing.specs.Sequencer.{Counts, fresh, admitted, admitted_after}
use Rattle.versioning.specs.declared.operation.Operation.{Operation}
use Rattle.versioning.specs.declared.request.Request.{Request}
use Rattle.versioning.specs.declared.request.Outcome.{Outcome}
use Rattle.versioning.specs.Words.{some_below, updated, writes, is_write, is_write_at, released, ended, count_writes, Course, beginning, ask, advance, mode, done, waiting, waits, next, has_table}

-- An unfinished transaction: its number, what it was assigned at each table, its course, and for each replica the rows that its writes replaced there, each with its place, the newest first.
pub record Transaction : Type 0 where
  pub number : ℕ
  pub assigned : List Assigned
  pub course : Course
  pub replaced : ℕ → List (ℕ × Row)

-- A replica: its 512 rows, and a version for each table.
pub record Replica : Type 0 where
  pub rows : List Row
  pub version : List ℕ

-- The state: the sequencer's counts, the replicas, and the unfinished transactions, the oldest first.
pub record State : Type 0 where
  pub counts : Counts
  pub replicas : List Replica
  pub unfinished : List Transaction

-- At the opening of n replicas every one holds the same rows, and every count and version is 0.
abbrev pub start : ℕ → List Row → State
start n rows =
    record { counts = fresh; replicas = replicate n (record { rows = rows; version = tables (λ t. 0) }); unfinished = [] }

-- The rows of each replica.
abbrev pub rows_of : List Replica → List (List Row)
rows_of [] = []
rows_of (r ∷ rs) = r.rows ∷ rows_of rs

-- What stands for a transaction that is finished: it asked its end, and every replica executed it.
abbrev pub finished : Transaction
finished =
    record { number = 0; assigned = []; course = record { declared = []; asked = Operation.Commit ∷ []; executed = λ j. 1 }; replaced = λ j. [] }

-- The transaction k among the unfinished; the list with another in its place; the list without it.
abbrev pub find : ℕ → List Transaction → Transaction
find k [] = finished
find k (x ∷ xs) = cond (x.number == k) x (find k xs)

abbrev pub replace : ℕ → Transaction → List Transaction → List Transaction
replace k y [] = []
replace k y (x ∷ xs) = cond (x.number == k) (y ∷ xs) (x ∷ replace k y xs)

abbrev pub remove : ℕ → List Transaction → List Transaction
remove k [] = []
remove k (x ∷ xs) = cond (x.number == k) xs (x ∷ remove k xs)

-- What a call leaves, by the number of its refusal: a refused call changes nothing.
abbrev pub kept_if_refused : ℕ → State → State → State
kept_if_refused n s later = cond (n == 0) later s

-- A table at version v admits what was assigned: a reader once the version has reached its number, a writer only at its number.
abbrev pub admits : Assigned → ℕ → Bool
admits Assigned.None v = true
admits (Assigned.Read n) v = nat_le n v
admits (Assigned.Write n) v = v == n

-- What a write costs, by its class; every other operation costs 1.
abbrev pub costs : List ℕ
costs = 1 ∷ 2 ∷ 3 ∷ 5 ∷ 8 ∷ 13 ∷ 21 ∷ 34 ∷ []

abbrev pub cost : Operation → ℕ
cost (Operation.Write t r v c) = slice_index costs c
cost (Operation.Release t) = 1
cost Operation.Commit = 1
cost Operation.Abort = 1

-- Of the numbers below n that fit, the one of the least load, of equals the lowest: `better` takes one number more into account.
abbrev pub better : (ℕ → Bool) → (ℕ → ℕ) → ℕ → Option ℕ → Option ℕ
better fits load j None = cond (fits j) (Some j) None
better fits load j (Some best) = cond (fits j && nat_lt (load j) (load best)) (Some j) (Some best)

abbrev pub least : (ℕ → Bool) → (ℕ → ℕ) → ℕ → Option ℕ
least fits load zero = None
least fits load (suc j) = better fits load j (least fits load j)

-- The checks that calls make of a transaction, by its course, each by what it asks for: that it is open, that it declares the table t, and that it has not asked the release of it.
module _ (c : Course) where
  abbrev pub still_open : Bool × Refusal
  still_open = (ended c.asked, Refusal.NotOpen)

  abbrev pub declared : ℕ → Bool × Refusal
  declared t = (not (declares (mode c t)), Refusal.NotDeclared)

  abbrev pub unreleased : ℕ → Bool × Refusal
  unreleased t = (released t c.asked, Refusal.AlreadyReleased)

  -- It is past recall once it asked the release of a table that it declares for writing.
  abbrev pub past_recall : Bool
  past_recall = some_below 8 (λ t. writes (mode c t) && released t c.asked)

  -- A write to row r of table t at the cost of the class; a read there; a release of the table; a commit; an abort.
  abbrev pub may_write : ℕ → ℕ → ℕ → List (Bool × Refusal)
  may_write t r class =
      still_open
      ∷ (place_checks t r
      ++ ((not (nat_lt class 8), Refusal.ClassOutOfRange)
      ∷ (not (writes (mode c t)), Refusal.NotDeclared)
      ∷ unreleased t
      ∷ (not (nat_lt (count_writes c.asked) 16), Refusal.TooManyWrites)
      ∷ []))

  abbrev pub may_read : ℕ → ℕ → List (Bool × Refusal)
  may_read t r = still_open ∷ (place_checks t r ++ (declared t ∷ unreleased t ∷ []))

  abbrev pub may_release : ℕ → List (Bool × Refusal)
  may_release t = still_open ∷ (not (nat_lt t 8), Refusal.TableOutOfRange) ∷ declared t ∷ unreleased t ∷ []

  abbrev pub may_commit : List (Bool × Refusal)
  may_commit = still_open ∷ []

  abbrev pub may_abort : List (Bool × Refusal)
  may_abort = still_open ∷ (past_recall, Refusal.PastRecall) ∷ []

-- A transaction's next operation is held back at the replica j, where the tables have these versions: a table of it does not admit it.
abbrev pub held_at : Transaction → ℕ → List ℕ → Bool
held_at x j versions =
    some_below 8 (λ t. has_table x.course (done x.course j) (next x.course j) t && not (admits (slice_index_or x.assigned t Assigned.None) (slice_index versions t)))

-- The replica j can answer its read of the table t: it admits it, and where the table is declared for writing, no write of it to the table waits there.
abbrev pub qualifies_at : Transaction → ℕ → ℕ → List ℕ → Bool
qualifies_at x t j versions =
    admits (slice_index_or x.assigned t Assigned.None) (slice_index versions t) && not (writes (mode x.course t) && some (is_write_at t) (waiting x.course j))

-- What a transaction still costs at the replica j: the sum of the costs of its operations that wait there.
abbrev pub cost_left : Transaction → ℕ → ℕ
cost_left x j = sum_by cost (waiting x.course j)

module _ (s : State) where
  -- The replica j, and the version of the table t there.
  abbrev pub replica : ℕ → Replica
  replica j = slice_index_or s.replicas j (record { rows = []; version = [] })

  abbrev pub version : ℕ → ℕ → ℕ
  version j t = slice_index (replica j).version t

  -- The transaction k, its course, and what it was assigned at the table t.
  abbrev pub transaction : ℕ → Transaction
  transaction k = find k s.unfinished

  abbrev pub course : ℕ → Course
  course k = (transaction k).course

  abbrev pub assigned_at : ℕ → ℕ → Assigned
  assigned_at k t = slice_index_or (transaction k).assigned t Assigned.None

  -- The load of the replica j: the sum of the costs of the operations that wait there.
  abbrev pub load : ℕ → ℕ
  load j = sum_by (λ x. cost_left x j) s.unfinished

  -- The next operation of the transaction k is held back at j.
  abbrev pub held : ℕ → ℕ → Bool
  held k j = held_at (transaction k) j (replica j).version

  -- The replica j can answer a read of the table t by the transaction k.
  abbrev pub qualifies : ℕ → ℕ → ℕ → Bool
  qualifies k t j = qualifies_at (transaction k) t j (replica j).version

  -- The replica that answers it: of those that qualify the least loaded, of equals the lowest.
  abbrev pub chosen : ℕ → ℕ → Option ℕ
  chosen k t = least (qualifies k t) load (length s.replicas)

  -- The transaction k has begun.
  abbrev pub known : ℕ → Bool × Refusal
  known k = (not (nat_lt k s.counts.begun), Refusal.UnknownTransaction)

  -- The transaction k when it has asked one operation more, and the state then.
  abbrev pub asking_transaction : ℕ → Operation → Transaction
  asking_transaction k op =
      record { number = (transaction k).number; assigned = (transaction k).assigned; course = ask op (course k); replaced = (transaction k).replaced }

  abbrev pub asking : ℕ → Operation → State
  asking k op =
      record { counts = s.counts; replicas = s.replicas; unfinished = replace k (asking_transaction k op) s.unfinished }

  -- Each call has its checks, in their order; its answer; and what it leaves.
  -- Begin: the answer is the transaction's number. The newcomer is assigned what the sequencer admits it with, and stands last among the unfinished.
  abbrev pub begin_checks : List Mode → List (Bool × Refusal)
  begin_checks modes =
      (not (declares_any modes), Refusal.NothingDeclared)
      ∷ (not (nat_lt (length s.unfinished) 16), Refusal.TooManyUnfinished)
      ∷ (not (nat_lt s.counts.begun 1000000), Refusal.TooManyBegun)
      ∷ []

  abbrev pub begin_reply : List Mode → ℕ × Option ℕ
  begin_reply modes = unless_refused (first (begin_checks modes)) s.counts.begun

  abbrev pub newcomer : List Mode → Transaction
  newcomer modes =
      record { number = (admitted s.counts modes).number; assigned = (admitted s.counts modes).assigned; course = beginning modes; replaced = λ j. [] }

  abbrev pub beginning_after : List Mode → State
  beginning_after modes =
      record { counts = admitted_after s.counts modes; replicas = s.replicas; unfinished = s.unfinished ++ (newcomer modes ∷ []) }

  abbrev pub begin_after : List Mode → State
  begin_after modes = kept_if_refused (first (begin_checks modes)) s (beginning_after modes)

  -- Write: of the transaction k, to the row r of the table t, the value v, at the cost of the class c.
  abbrev pub write_checks : ℕ → ℕ → ℕ → ℕ → List (Bool × Refusal)
  write_checks k t r c = known k ∷ may_write (course k) t r c

  abbrev pub write_reply : ℕ → ℕ → ℕ → ℕ → ℕ × Option (Unit {0})
  write_reply k t r c = unless_refused (first (write_checks k t r c)) tt

  abbrev pub write_after : ℕ → ℕ → ℕ → Row → ℕ → State
  write_after k t r v c = kept_if_refused (first (write_checks k t r c)) s (asking k (Operation.Write t r v c))

  -- Read: the answer is the row that stands at the replica chosen, and that replica's number. It changes nothing. Whether a replica qualifies is checked last.
  abbrev pub reading_checks : ℕ → ℕ → ℕ → List (Bool × Refusal)
  reading_checks k t r = known k ∷ may_read (course k) t r

  abbrev pub read_checks : ℕ → ℕ → ℕ → List (Bool × Refusal)
  read_checks k t r = reading_checks k t r ++ ((not (is_some (chosen k t)), Refusal.NoReplicaQualifies) ∷ [])

  abbrev pub found : ℕ → ℕ → ℕ → Row
  found j t r = slice_index_or (replica j).rows (place t r) blank

  abbrev pub read_reply : ℕ → ℕ → ℕ → ℕ × Option (Row × ℕ)
  read_reply k t r =
      unless_refused (first (read_checks k t r)) (found (unwrap_or (chosen k t) 0) t r, unwrap_or (chosen k t) 0)

  -- Release: of the table t by the transaction k.
  abbrev pub release_checks : ℕ → ℕ → List (Bool × Refusal)
  release_checks k t = known k ∷ may_release (course k) t

  abbrev pub release_reply : ℕ → ℕ → ℕ × Option (Unit {0})
  release_reply k t = unless_refused (first (release_checks k t)) tt

  abbrev pub release_after : ℕ → ℕ → State
  release_after k t = kept_if_refused (first (release_checks k t)) s (asking k (Operation.Release t))

  -- Commit: of the transaction k.
  abbrev pub commit_checks : ℕ → List (Bool × Refusal)
  commit_checks k = known k ∷ may_commit (course k)

  abbrev pub commit_reply : ℕ → ℕ × Option (Unit {0})
  commit_reply k = unless_refused (first (commit_checks k)) tt

  abbrev pub commit_after : ℕ → State
  commit_after k = kept_if_refused (first (commit_checks k)) s (asking k Operation.Commit)

  -- Abort: of the transaction k.
  abbrev pub abort_checks : ℕ → List (Bool × Refusal)
  abort_checks k = known k ∷ may_abort (course k)

  abbrev pub abort_reply : ℕ → ℕ × Option (Unit {0})
  abort_reply k = unless_refused (first (abort_checks k)) tt

  abbrev pub abort_after : ℕ → State
  abort_after k = kept_if_refused (first (abort_checks k)) s (asking k Operation.Abort)

-- The rows replaced are put back, the newest first.
abbrev pub undo : List (ℕ × Row) → List Row → List Row
undo [] rows = rows
undo (x ∷ xs) rows = undo xs (slice_set rows x.0 x.1)

-- What the execution of an operation makes of a replica's rows, by the rows that the transaction's writes replaced there before.
abbrev pub rows_after : Operation → List (ℕ × Row) → List Row → List Row
rows_after (Operation.Write t r v c) replaced rows = slice_set rows (place t r) v
rows_after (Operation.Release t) replaced rows = rows
rows_after Operation.Commit replaced rows = rows
rows_after Operation.Abort replaced rows = undo replaced rows

-- And of the rows replaced: a write adds the row that stood at its place.
abbrev pub replaced_after : Operation → List (ℕ × Row) → List Row → List (ℕ × Row)
replaced_after (Operation.Write t r v c) replaced rows = (place t r, slice_index_or rows (place t r) blank) ∷ replaced
replaced_after (Operation.Release t) replaced rows = replaced
replaced_after Operation.Commit replaced rows = replaced
replaced_after Operation.Abort replaced rows = replaced

-- And of the version of the table t: a release and an end add one for each of their tables.
abbrev pub version_after : Course → ℕ → ℕ → ℕ → ℕ
version_after c j t v = cond (not (is_write (next c j)) && has_table c (done c j) (next c j) t) (v + 1) v

-- An end is among what was asked, and each of n replicas has executed all of it.
abbrev pub all_executed : ℕ → Course → Bool
all_executed n c = ended c.asked && not (some_below n (waits c))

module _ (s : State) where
  -- Step: the next operation of the transaction k is executed at the replica j, which changes that replica and that transaction; one that every replica has executed to its end is finished.
  abbrev pub step_checks : ℕ → ℕ → List (Bool × Refusal)
  step_checks k j =
      (not (nat_lt j (length s.replicas)), Refusal.UnknownReplica)
      ∷ known s k
      ∷ (not (waits (course s k) j), Refusal.NothingWaits)
      ∷ (held s k j, Refusal.HeldBack)
      ∷ []

  abbrev pub step_reply : ℕ → ℕ → ℕ × Option (Unit {0})
  step_reply k j = unless_refused (first (step_checks k j)) tt

  abbrev pub stepped_replica : ℕ → ℕ → Replica
  stepped_replica k j =
      record { rows = rows_after (next (course s k) j) ((transaction s k).replaced j) (replica s j).rows; version = tables (λ t. version_after (course s k) j t (version s j t)) }

  abbrev pub stepped_transaction : ℕ → ℕ → Transaction
  stepped_transaction k j =
      record { number = (transaction s k).number; assigned = (transaction s k).assigned; course = advance j (course s k); replaced = updated j (replaced_after (next (course s k) j) ((transaction s k).replaced j) (replica s j).rows) (transaction s k).replaced }

  abbrev pub stepping : ℕ → ℕ → State
  stepping k j =
      record {
        counts = s.counts;
        replicas = slice_set s.replicas j (stepped_replica k j);
        unfinished = cond (all_executed (length s.replicas) (advance j (course s k))) (remove k s.unfinished) (replace k (stepped_transaction k j) s.unfinished);
      }

  abbrev pub step_after : ℕ → ℕ → State
  step_after k j = kept_if_refused (first (step_checks k j)) s (stepping k j)

-- An answer that goes on where it has a value.
abbrev pub and_then : {A B : Type 0} → ℕ × Option A → (A → ℕ × Option B) → ℕ × Option B
and_then a f = elim a.1 [ None ↦ (a.0, None) | Some x ↦ f x ]

-- The answer to a request: its number, and where that is 0 its outcome. A history is requests with their answers.
abbrev pub Answer : Type 0 → Type 0
Answer V = ℕ × Option (Outcome V)

abbrev pub History : Type 0 → Type 0 → Type 0
History V K = List (Request V K × Answer V)

-- An answer with its value told as an outcome.
abbrev pub as_outcome : {A V : Type 0} → (A → Outcome V) → ℕ × Option A → Answer V
as_outcome f a = (a.0, option_map f a.1)

-- What a call answers, and what it leaves.
abbrev pub call_reply : {V : Type 0} → State → Call → Answer V
call_reply s (Call.Begin modes) = as_outcome (λ n. Outcome.Begun n) (begin_reply s modes)
call_reply s (Call.Write k t r v c) = as_outcome (λ x. Outcome.Accepted) (write_reply s k t r c)
call_reply s (Call.Read k t r) = as_outcome (λ x. Outcome.Found x.0 x.1) (read_reply s k t r)
call_reply s (Call.Release k t) = as_outcome (λ x. Outcome.Accepted) (release_reply s k t)
call_reply s (Call.Commit k) = as_outcome (λ x. Outcome.Accepted) (commit_reply s k)
call_reply s (Call.Abort k) = as_outcome (λ x. Outcome.Accepted) (abort_reply s k)
call_reply s (Call.Step k j) = as_outcome (λ x. Outcome.Accepted) (step_reply s k j)

abbrev pub call_after : State → Call → State
call_after s (Call.Begin modes) = begin_after s modes
call_after s (Call.Write k t r v c) = write_after s k t r v c
call_after s (Call.Read k t r) = s
call_after s (Call.Release k t) = release_after s k t
call_after s (Call.Commit k) = commit_after s k
call_after s (Call.Abort k) = abort_after s k
call_after s (Call.Step k j) = step_after s k j

-- A typed read answers the value that the row found unpacks to, and is refused, last, where there is none.
abbrev pub read_as_reply : {V : Type 0} → (Row → Option V) → State → ℕ → ℕ → ℕ → ℕ × Option (V × ℕ)
read_as_reply unpack s k t r =
    and_then (read_reply s k t r) (λ x. and_then (value_reply (unpack x.0)) (λ v. (0, Some (v, x.1))))

-- Requests: calls, and typed writes and reads over any packing and unpacking. A typed write writes its packing.
module _ {V K : Type 0} (pack : V → Row) (unpack : K → Row → Option V) where
  abbrev pub reply : State → Request V K → Answer V
  reply s (Request.Call c) = call_reply s c
  reply s (Request.WriteAs k t r v c) = as_outcome (λ x. Outcome.Accepted) (write_reply s k t r c)
  reply s (Request.ReadAs k t r kind) = as_outcome (λ x. Outcome.Value x.0 x.1) (read_as_reply (unpack kind) s k t r)

  abbrev pub after : State → Request V K → State
  after s (Request.Call c) = call_after s c
  after s (Request.WriteAs k t r v c) = write_after s k t r (pack v) c
  after s (Request.ReadAs k t r kind) = s

  -- A run from a state: its history, and the state that it leaves.
  abbrev pub answered : State → List (Request V K) → History V K
  answered s [] = []
  answered s (q ∷ qs) = (q, reply s q) ∷ answered (after s q) qs

  abbrev pub final : State → List (Request V K) → State
  final s [] = s
  final s (q ∷ qs) = final (after s q) qs

-- The law of the choice. Among n numbers j is one that fits; none that fits has less load, and none of equal load is lower.
pub record LeastLoaded (fits : ℕ → Bool) (load : ℕ → ℕ) (n j : ℕ) : Type 0 where
  pub within : j < n
  pub fit : fits j ≡ true
  pub least : (i : ℕ) → i < n → fits i ≡ true → load j ≤ load i
  pub lowest : (i : ℕ) → i < n → fits i ≡ true → load i ≡ load j → j ≤ i

-- An accepted read answers the row that stands at the least loaded replica that qualifies; one that passes the checks before is refused with 13 exactly when none qualifies.
pub record ReadsLeastLoaded (s : State) (k t r : ℕ) : Type 0 where
  pub answers : (x : Row) (j : ℕ) → read_reply s k t r ≡ (0, Some (x, j)) → LeastLoaded (qualifies s k t) (load s) (length s.replicas) j × (x ≡ found s j t r)
  pub refuses : first (reading_checks s k t r) ≡ 0 → ((read_reply s k t r).0 ≡ number Refusal.NoReplicaQualifies) ↔ ((j : ℕ) → j < length s.replicas → qualifies s k t j ≡ false)

-- So it is in every state.
abbrev pub AlwaysReadsLeastLoaded : Type 0
AlwaysReadsLeastLoaded = (s : State) (k t r : ℕ) → ReadsLeastLoaded s k t r
