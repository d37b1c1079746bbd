-- A transaction as the machine has it.
use Rattle.std.specs.Prelude.{◌≡◌, ℕ, zero, suc, ◌<◌, Bool, cond, not, List, [], ◌∷◌, map, length, Some, None, Option, ◌==◌, slice_index_or, slice_set}
use Rattle.std.specs.List.{remove as without}
use Rattle.catalogue.specs.declared.refusal.Refusal.{Refusal}
use Rattle.catalogue.specs.declared.row.Row.{Row}
use Rattle.catalogue.specs.Refusals.{first, unless_refused}
use Rattle.catalogue.specs.Rows.{blank, place}
use Rattle.sequencing.specs.declared.mode.Mode.{Mode}
use Rattle.sequencing.specs.declared.sequencer.Begun.{Begun}
use Rattle.versioning.specs.declared.operation.Operation.{Operation}
use Rattle.versioning.specs.Words.{updated, Course, beginning, ask, advance, next, waits}
use Rattle.versioning.specs.Machine.{Transaction as Unfinished, finished, find, replace, remove, may_write, may_read, may_release, may_commit, may_abort, held_at, replaced_after}
use Rattle.cluster.specs.declared.transaction.Transaction.{Transaction}
use Rattle.cluster.specs.Orderly.{progress_at, executed_at}

-- The rows replaced, with that of one operation more, and its place: only a write replaces one.
abbrev pub replaced_by : Operation → Row → List (ℕ × Row) → List (ℕ × Row)
replaced_by (Operation.Write t r v c) old rest = (place t r, old) ∷ rest
replaced_by (Operation.Release t) old rest = rest
replaced_by Operation.Commit old rest = rest
replaced_by Operation.Abort old rest = rest

-- The rows that the first n operations replaced at a replica, the newest first.
abbrev pub replaced_rows : List Operation → List Row → ℕ → List (ℕ × Row)
replaced_rows ops olds zero = []
replaced_rows ops olds (suc n) = replaced_by (slice_index_or ops n Operation.Commit) (slice_index_or olds n blank) (replaced_rows ops olds n)

-- The course of a transaction.
abbrev pub course_of : Transaction → Course
course_of x = record { declared = x.declared; asked = x.asked.items; executed = executed_at x.progress }

-- The machine's transaction that one stands for.
abbrev pub transaction_of : Transaction → Unfinished
transaction_of x =
    record { number = x.number; assigned = x.assigned; course = course_of x; replaced = λ j. replaced_rows x.asked.items (progress_at x.progress j).replaced.items (executed_at x.progress j) }

-- A transaction that begins with this declaration.
abbrev pub begun_as : List Mode → Begun → Unfinished
begun_as modes b = record { number = b.number; assigned = b.assigned; course = beginning modes; replaced = λ j. [] }

-- The checks of an operation that is asked.
abbrev pub may_ask : Course → Operation → List (Bool × Refusal)
may_ask c (Operation.Write t r v class) = may_write c t r class
may_ask c (Operation.Release t) = may_release c t
may_ask c Operation.Commit = may_commit c
may_ask c Operation.Abort = may_abort c

-- The answer to it.
abbrev pub may_ask_reply : Unfinished → Operation → ℕ × Option (Unit {0})
may_ask_reply x op = unless_refused (first (may_ask x.course op)) tt

-- The transaction with another course.
abbrev pub with_course : Unfinished → Course → Unfinished
with_course x c = record { number = x.number; assigned = x.assigned; course = c; replaced = x.replaced }

-- The transaction after it was asked: a refused one is as it was.
abbrev pub asked_after : Unfinished → Operation → Unfinished
asked_after x op = cond (first (may_ask x.course op) == 0) (with_course x (ask op x.course)) x

-- The checks of a read that are the transaction's own.
abbrev pub may_read_reply : Unfinished → ℕ → ℕ → ℕ × Option (Unit {0})
may_read_reply x t r = unless_refused (first (may_read x.course t r)) tt

-- The checks of a step that are the transaction's own, at the replica j, where the tables have these versions; and the answer to them.
abbrev pub may_execute : Unfinished → ℕ → List ℕ → List (Bool × Refusal)
may_execute x j versions = (not (waits x.course j), Refusal.NothingWaits) ∷ (held_at x j versions, Refusal.HeldBack) ∷ []

abbrev pub may_execute_reply : Unfinished → ℕ → List ℕ → ℕ × Option (Unit {0})
may_execute_reply x j versions = unless_refused (first (may_execute x j versions)) tt

-- The transaction after its next operation was executed at the replica j, which held these rows.
abbrev pub executed_after : Unfinished → ℕ → List Row → Unfinished
executed_after x j rows =
    record { number = x.number; assigned = x.assigned; course = advance j x.course; replaced = updated j (replaced_after (next x.course j) (x.replaced j) rows) x.replaced }

-- All of them, in their order.
abbrev pub transactions_of : List Transaction → List Unfinished
transactions_of xs = map transaction_of xs

-- Where the transaction k stands among the unfinished: it is found there, replaced there and removed there; or it is finished.
pub record StandsAt (k i : ℕ) (xs : List Unfinished) : Type 0 where
  pub within : i < length xs
  pub found : find k xs ≡ slice_index_or xs i finished
  pub replaced : (y : Unfinished) → replace k y xs ≡ slice_set xs i y
  pub removed : remove k xs ≡ without xs i

abbrev pub Stands : ℕ → List Unfinished → Option ℕ → Type 0
Stands k xs None = find k xs ≡ finished
Stands k xs (Some i) = StandsAt k i xs
