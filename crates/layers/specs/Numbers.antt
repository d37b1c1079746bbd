-- Eight numbers that rename the tables.
use Rattle.std.specs.Prelude.{◌≡◌, ℕ, ◌/◌, ◌%◌, Bool, not, ◌&&◌, List, [], ◌∷◌, map, length, Option, ◌==◌, nat_lt, slice_index, slice_index_or, count_by}
use Rattle.std.specs.List.{list_all, range_with_len}
use Rattle.std.proofs.lemmas.List.FromFn.{length-map-range_with_len}
use Rattle.catalogue.specs.declared.refusal.Refusal.{Refusal}
use Rattle.catalogue.specs.declared.row.Row.{Row}
use Rattle.catalogue.specs.Refusals.{first, unless_refused}
use Rattle.catalogue.specs.Rows.{blank, place}

-- How often n stands in a list.
abbrev pub count : ℕ → List ℕ → ℕ
count n numbers = count_by (λ number. number == n) numbers

-- Each of the eight is below 8, and each of 0 to 7 stands just once.
abbrev pub in_order : List ℕ → ℕ → Bool
in_order numbers t = nat_lt (slice_index numbers t) 8 && count t numbers == 1

abbrev pub permutation : List ℕ → Bool
permutation numbers = list_all (in_order numbers) (range_with_len 0 8)

-- Other numbers are refused.
abbrev pub numbers_reply : List ℕ → ℕ × Option (List ℕ)
numbers_reply numbers = unless_refused (first ((not (permutation numbers), Refusal.NotAPermutation) ∷ [])) numbers

-- Table t above is the number at t below, so this is where a place lies below.
abbrev pub moved : List ℕ → ℕ → ℕ
moved numbers k = place (slice_index numbers (k / 64)) (k % 64)

abbrev pub moved_row : List ℕ → List Row → ℕ → Row
moved_row numbers rows k = slice_index_or rows (moved numbers k) blank

-- The rows as they are seen from above.
unfoldable pub renumbered : List ℕ → List Row → List Row
renumbered numbers rows = map (moved_row numbers rows) (range_with_len 0 512)

pub renumbered_full : (numbers : List ℕ) (rows : List Row) → length (renumbered numbers rows) ≡ 512
unfolding renumbered
renumbered_full numbers rows = length-map-range_with_len (moved_row numbers rows) 0 512
