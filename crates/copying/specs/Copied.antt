-- Rows copied from the first catalogue to another.
use Rattle.std.specs.Prelude.{ℕ, List, ◌++◌, take, drop, slice_index_or, slice_set}
use Rattle.catalogue.specs.declared.row.Row.{Row}
use Rattle.catalogue.specs.Rows.{blank}
use Rattle.catalogue.specs.Replicated.{catalogue_of}

-- The row at one place.
abbrev pub copied_row : List (List Row) → ℕ → ℕ → List (List Row)
copied_row cs to place = slice_set cs to (slice_set (catalogue_of cs to) place (slice_index_or (catalogue_of cs 0) place blank))

-- The rows at the places below n: the catalogue has its own from there on.
abbrev pub copied_places : List (List Row) → ℕ → ℕ → List (List Row)
copied_places cs to n = slice_set cs to (take n (catalogue_of cs 0) ++ drop n (catalogue_of cs to))

-- All of them.
abbrev pub copied_rows : List (List Row) → ℕ → List (List Row)
copied_rows cs to = slice_set cs to (catalogue_of cs 0)
