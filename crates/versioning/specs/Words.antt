-- Modes, operations, and the course of a transaction: what it declared, what it asked, and how much of that each replica executed.
use Rattle.std.specs.Prelude.{ℕ, zero, suc, ◌+◌, Bool, true, false, cond, not, ◌&&◌, ◌||◌, List, [], ◌∷◌, ◌++◌, length, take, drop, count_by, ◌==◌, nat_lt, slice_index_or}
use Rattle.sequencing.specs.declared.mode.Mode.{Mode}
use Rattle.sequencing.specs.Modes.{declares, some}
use Rattle.versioning.specs.declared.operation.Operation.{Operation}

-- At least one number below n passes.
abbrev pub some_below : ℕ → (ℕ → Bool) → Bool
some_below zero p = false
some_below (suc n) p = p n || some_below n p

-- The function f, but v at i.
abbrev pub updated : {A : Type 0} → ℕ → A → (ℕ → A) → ℕ → A
updated i v f x = cond (x == i) v (f x)

-- A table is declared for writing.
abbrev pub writes : Mode → Bool
writes Mode.None = false
writes Mode.Read = false
writes Mode.Write = true

-- Two transactions conflict at a table that both declare and at least one of them declares for writing.
abbrev pub conflict : Mode → Mode → Bool
conflict Mode.None m = false
conflict Mode.Read m = writes m
conflict Mode.Write m = declares m

-- Which operation it is: the release of the table t, an end, an abort, a write, a write to the table t.
abbrev pub is_release : ℕ → Operation → Bool
is_release t (Operation.Write u r v c) = false
is_release t (Operation.Release u) = t == u
is_release t Operation.Commit = false
is_release t Operation.Abort = false

abbrev pub is_end : Operation → Bool
is_end (Operation.Write u r v c) = false
is_end (Operation.Release u) = false
is_end Operation.Commit = true
is_end Operation.Abort = true

abbrev pub is_abort : Operation → Bool
is_abort (Operation.Write u r v c) = false
is_abort (Operation.Release u) = false
is_abort Operation.Commit = false
is_abort Operation.Abort = true

abbrev pub is_write : Operation → Bool
is_write (Operation.Write u r v c) = true
is_write (Operation.Release u) = false
is_write Operation.Commit = false
is_write Operation.Abort = false

abbrev pub is_write_at : ℕ → Operation → Bool
is_write_at t (Operation.Write u r v c) = t == u
is_write_at t (Operation.Release u) = false
is_write_at t Operation.Commit = false
is_write_at t Operation.Abort = false

-- Among the operations is the release of the table t; an end; an abort.
abbrev pub released : ℕ → List Operation → Bool
released t ops = some (is_release t) ops

abbrev pub ended : List Operation → Bool
ended ops = some is_end ops

abbrev pub aborted : List Operation → Bool
aborted ops = some is_abort ops

-- The operations let go of the table t: its release is among them, or an end.
abbrev pub lets_go : ℕ → List Operation → Bool
lets_go t ops = released t ops || ended ops

-- How many of the operations are writes.
abbrev pub count_writes : List Operation → ℕ
count_writes ops = count_by is_write ops

-- The course of a transaction: the modes it declared, the operations it asked, oldest first, and how many of them each replica has executed.
pub record Course : Type 0 where
  pub declared : List Mode
  pub asked : List Operation
  pub executed : ℕ → ℕ

-- As it begins.
abbrev pub beginning : List Mode → Course
beginning modes = record { declared = modes; asked = []; executed = λ j. 0 }

-- It asks one operation more.
abbrev pub ask : Operation → Course → Course
ask op c = record { declared = c.declared; asked = c.asked ++ (op ∷ []); executed = c.executed }

-- The replica j executes one operation more of it.
abbrev pub advance : ℕ → Course → Course
advance j c = record { declared = c.declared; asked = c.asked; executed = updated j (c.executed j + 1) c.executed }

-- The mode in which it declares the table t; there are eight tables.
abbrev pub mode : Course → ℕ → Mode
mode c t = cond (nat_lt t 8) (slice_index_or c.declared t Mode.None) Mode.None

-- Its operations that the replica j has executed, and those that wait there.
abbrev pub done : Course → ℕ → List Operation
done c j = take (c.executed j) c.asked

abbrev pub waiting : Course → ℕ → List Operation
waiting c j = drop (c.executed j) c.asked

-- Whether one waits at j, and the next one there.
abbrev pub waits : Course → ℕ → Bool
waits c j = nat_lt (c.executed j) (length c.asked)

abbrev pub next : Course → ℕ → Operation
next c j = slice_index_or c.asked (c.executed j) Operation.Commit

-- It has let go of the table t at the replica j.
abbrev pub has_let_go : Course → ℕ → ℕ → Bool
has_let_go c j t = lets_go t (done c j)

-- The table t is one of the operation's, which it asked behind the operations before: a write and a release have one table, an end has each that is declared and not released.
abbrev pub has_table : Course → List Operation → Operation → ℕ → Bool
has_table c before (Operation.Write u r v k) t = t == u
has_table c before (Operation.Release u) t = t == u
has_table c before Operation.Commit t = declares (mode c t) && not (released t before)
has_table c before Operation.Abort t = declares (mode c t) && not (released t before)
