-- What a transaction's operations have in common: over lists, so that the transaction's own type can hold it as facts.
use Rattle.std.specs.Prelude.{◌≡◌, ℕ, zero, suc, ◌+◌, Bool, true, false, cond, not, ◌&&◌, List, [], length, take, sum_by, nat_lt, slice_index_or}
use Rattle.sequencing.specs.declared.mode.Mode.{Mode}
use Rattle.sequencing.specs.Modes.{declares}
use Rattle.versioning.specs.declared.operation.Operation.{Operation}
use Rattle.versioning.specs.Words.{writes, released, lets_go, ended, count_writes}
use Rattle.versioning.specs.Machine.{cost}
use Rattle.cluster.specs.declared.transaction.Phase.{Phase}
use Rattle.cluster.specs.declared.transaction.progress.Progress.{Progress}

-- A phase is the ended one.
abbrev pub is_ended : Phase → Bool
is_ended Phase.Open = false
is_ended Phase.Ended = true

-- The mode for the table t in a declaration of eight.
abbrev pub mode_in : List Mode → ℕ → Mode
mode_in modes t = cond (nat_lt t 8) (slice_index_or modes t Mode.None) Mode.None

-- The operation may stand behind those before: a write and a release at a table that is declared for them and not let go of, in range, an end behind none.
abbrev pub may_follow : List Mode → List Operation → Operation → Bool
may_follow modes before (Operation.Write t r v c) = writes (mode_in modes t) && (not (lets_go t before) && (nat_lt t 8 && (nat_lt r 64 && nat_lt c 8)))
may_follow modes before (Operation.Release t) = declares (mode_in modes t) && (not (lets_go t before) && nat_lt t 8)
may_follow modes before Operation.Commit = not (ended before)
may_follow modes before Operation.Abort = not (ended before)

-- Each of the first n operations may follow those before it.
abbrev pub orderly : List Mode → List Operation → ℕ → Bool
orderly modes ops zero = true
orderly modes ops (suc n) = orderly modes ops n && may_follow modes (take n ops) (slice_index_or ops n Operation.Commit)

-- One where it is so, else none.
abbrev pub bit : Bool → ℕ
bit true = 1
bit false = 0

-- The sum of f over the numbers below n.
abbrev pub sum_below : ℕ → (ℕ → ℕ) → ℕ
sum_below zero f = 0
sum_below (suc n) f = f n + sum_below n f

-- The writes, the tables released, and the end: as many operations there are at most.
abbrev pub tally : List Operation → ℕ
tally ops = count_writes ops + (sum_below 8 (λ t. bit (released t ops)) + bit (ended ops))

-- How far the replica j is; where there is none, it has executed nothing. And how many operations it has executed.
abbrev pub progress_at : List Progress → ℕ → Progress
progress_at ps j = slice_index_or ps j (record { replaced = record { items = []; spare = [] }; cost = 0 })

abbrev pub executed_at : List Progress → ℕ → ℕ
executed_at ps j = length (progress_at ps j).replaced.items

-- Each replica has what the operations that it has executed cost together.
abbrev pub Spent : List Progress → List Operation → Type 0
Spent ps ops = (j : ℕ) → (progress_at ps j).cost ≡ sum_by cost (take (executed_at ps j) ops)
