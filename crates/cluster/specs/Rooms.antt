-- What keeps a cluster's counts small, over the machine's transactions.
use Rattle.std.specs.Prelude.{ℕ, ◌+◌, ◌<◌, ◌≤◌, Bool, cond, not, ◌&&◌, List, [], ◌∷◌, nat_le, slice_index, slice_index_or}
use Rattle.sequencing.specs.declared.sequencer.Next.{Next}
use Rattle.sequencing.specs.Modes.{declares}
use Rattle.sequencing.specs.Sequencer.{next_at}
use Rattle.versioning.specs.Words.{mode, has_let_go}
use Rattle.versioning.specs.Machine.{Transaction}

-- The numbers rise, from the lowest given, and stay below the count of those begun.
abbrev pub rising : ℕ → List Transaction → ℕ → Bool
rising low [] begun = nat_le low begun
rising low (x ∷ xs) begun = nat_le low x.number && rising (x.number + 1) xs begun

-- A transaction declares the table t and has not let go of it at the replica j; how many do.
abbrev pub holds : ℕ → ℕ → Transaction → Bool
holds j t x = declares (mode x.course t) && not (has_let_go x.course j t)

abbrev pub holders : ℕ → ℕ → List Transaction → ℕ
holders j t [] = 0
holders j t (x ∷ xs) = cond (holds j t x) (holders j t xs + 1) (holders j t xs)

-- Each version leaves room for those that hold the table: with them it comes to next-for-write at most.
abbrev pub Room : List (List ℕ) → List Next → List Transaction → Type 0
Room versions next xs = (j t : ℕ) → t < 8 → slice_index (slice_index_or versions j []) t + holders j t xs ≤ (next_at next t).write
