-- Text cut at a mark, as a sheet is at its line feeds and a line at its commas.
use Rattle.std.specs.Prelude.{ℕ, List, ◌==◌}
use Rattle.std.specs.List.{slice_split}

-- The pieces between the marks: one more than there are marks, so that there is always a first.
abbrev pub pieces : ℕ → List ℕ → List (List ℕ)
pieces mark bs = slice_split (λ b. b == mark) bs
