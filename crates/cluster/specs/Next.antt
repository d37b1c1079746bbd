-- The next operation of a transaction at a replica.
use Rattle.std.specs.Prelude.{◌≡◌, ℕ, ◌+◌, ◌^◌, ◌<◌, Bool, true, false}
use Rattle.versioning.specs.declared.operation.Operation.{Operation}
use Rattle.versioning.specs.Words.{done, next, has_table, is_write}
use Rattle.cluster.specs.declared.transaction.next.NextOperation.{NextOperation}
use Rattle.cluster.specs.Transactions.{course_of}

-- Which it is, and whether the table t is one of its own.
abbrev pub operation_of : NextOperation → Operation
operation_of n = next (course_of n.transaction.now) n.replica.number

abbrev pub touches : NextOperation → ℕ → Bool
touches n t = has_table (course_of n.transaction.now) (done (course_of n.transaction.now) n.replica.number) (operation_of n) t

-- Where it lets go of the table t, the table's version can be one more.
abbrev pub RoomFor : NextOperation → ℕ → ℕ → Type 0
RoomFor n t version = is_write (operation_of n) ≡ false → touches n t ≡ true → version + 1 < 2 ^ 32
