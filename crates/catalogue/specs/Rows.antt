-- The catalogue's 512 rows, and what a store answers and holds after.
use Rattle.std.specs.Prelude.{◌≡◌, ℕ, ◌+◌, ◌*◌, ◌<◌, Bool, cond, not, List, [], ◌∷◌, Option, ◌==◌, nat_lt, slice_index_or, slice_set}
use Rattle.catalogue.specs.declared.refusal.Refusal.{Refusal}
use Rattle.catalogue.specs.declared.row.Row.{Row}
use Rattle.catalogue.specs.Refusals.{first, unless_refused}

-- The row of zeros.
abbrev pub blank : Row
blank = record { high = 0; low = 0 }

-- Where row r of table t stands in a catalogue: eight tables of 64 rows, one after the other.
abbrev pub place : ℕ → ℕ → ℕ
place t r = t * 64 + r

-- A place that row r of table t has.
pub record Placed (t r place : ℕ) : Type 0 where
  pub table : t < 8
  pub row : r < 64
  pub is : place ≡ t * 64 + r
  pub within : place < 512

-- A table above 7 is refused.
abbrev pub table_reply : ℕ → ℕ × Option ℕ
table_reply t = unless_refused (first ((not (nat_lt t 8), Refusal.TableOutOfRange) ∷ [])) t

-- A table above 7 is refused, then a row number above 63.
abbrev pub place_checks : ℕ → ℕ → List (Bool × Refusal)
place_checks t r = (not (nat_lt t 8), Refusal.TableOutOfRange) ∷ (not (nat_lt r 64), Refusal.RowOutOfRange) ∷ []

abbrev pub place_reply : ℕ → ℕ → ℕ × Option ℕ
place_reply t r = unless_refused (first (place_checks t r)) (place t r)

-- A fetch answers the row that stands there.
abbrev pub fetch_reply : List Row → ℕ → ℕ → ℕ × Option Row
fetch_reply rows t r = unless_refused (first (place_checks t r)) (slice_index_or rows (place t r) blank)

-- A put answers nothing more, and replaces the row there and no other; a refused one changes nothing.
abbrev pub put_reply : ℕ → ℕ → ℕ × Option (Unit {0})
put_reply t r = unless_refused (first (place_checks t r)) tt

abbrev pub put_after : List Row → ℕ → ℕ → Row → List Row
put_after rows t r v = cond (first (place_checks t r) == 0) (slice_set rows (place t r) v) rows

-- The memory lent to a store, by its ghost name, and its rows past the 512th.
pub record Lent : Type 0 where
  pub memory : ℕ
  pub beyond : List Row
