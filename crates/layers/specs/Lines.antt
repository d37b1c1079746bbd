-- The lines of a cache over a store.
use Rattle.std.specs.Prelude.{◌≡◌, ℕ, ◌+◌, ◌*◌, ◌/◌, ◌%◌, cond, List, map, length, replicate, Some, None, Option, ◌==◌, slice_index_or}
use Rattle.std.specs.List.{range_with_len}
use Rattle.std.specs.Option.{unwrap_or}
use Rattle.std.proofs.lemmas.List.FromFn.{length-map-range_with_len}
use Rattle.catalogue.specs.declared.row.Row.{Row}
use Rattle.catalogue.specs.Rows.{blank, put_after}
use Rattle.layers.specs.declared.cache.Line.{Line}

-- A line has the row of a place whose tag, the place over 16, is its own.
abbrev pub row_of : Option Line → ℕ → Option Row
row_of None place = None
row_of (Some l) place = cond (l.tag == place / 16) (Some l.row) None

-- A place belongs to the line of its remainder by 16.
abbrev pub line_of : List (Option Line) → ℕ → Option Line
line_of lines place = slice_index_or lines (place % 16) None

abbrev pub cached : List (Option Line) → ℕ → Option Row
cached lines place = row_of (line_of lines place) place

abbrev pub empty_lines : List (Option Line)
empty_lines = replicate 16 None

-- The rows below with the lines laid over them.
abbrev pub overlaid_row : List (Option Line) → List Row → ℕ → Row
overlaid_row lines rows place = unwrap_or (cached lines place) (slice_index_or rows place blank)

unfoldable pub overlaid : List (Option Line) → List Row → List Row
overlaid lines rows = map (overlaid_row lines rows) (range_with_len 0 512)

pub overlaid_full : (lines : List (Option Line)) (rows : List Row) → length (overlaid lines rows) ≡ 512
unfolding overlaid
overlaid_full lines rows = length-map-range_with_len (overlaid_row lines rows) 0 512

-- The rows below once line k has gone there.
abbrev pub written_back : ℕ → Option Line → List Row → List Row
written_back k None rows = rows
written_back k (Some l) rows = let place = l.tag * 16 + k in put_after rows (place / 64) (place % 64) l.row

-- The rows below once a line has made room for a place: the line's row is put below if it is another place's.
abbrev pub evicted : Option Line → ℕ → List Row → List Row
evicted None place rows = rows
evicted (Some l) place rows = cond (l.tag == place / 16) rows (written_back (place % 16) (Some l) rows)
