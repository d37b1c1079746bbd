-- Changes that are not yet written into a memory.
use Rattle.std.specs.Prelude.{◌≡◌, ℕ, List, [], ◌∷◌, length, reverse, fold, Option, ◌==◌, slice_set}
use Rattle.std.specs.List.{find}
use Rattle.std.specs.Option.{option_map}
use Rattle.std.proofs.Common.{◌∙◌, length-set}
use Rattle.catalogue.specs.declared.row.Row.{Row}
use Rattle.stores.specs.declared.change_list.Change.{Change}

-- The rows with a change laid over them.
abbrev pub changed : List Row → Change → List Row
changed rows change = slice_set rows change.place.index change.row

-- The rows with all changes laid over them, in their order, so that the latest of a place counts.
abbrev pub noted : List Row → List Change → List Row
noted rows changes = fold changed rows changes

pub noted_full : (rows : List Row) (changes : List Change) → length rows ≡ 512 → length (noted rows changes) ≡ 512
noted_full rows [] full = full
noted_full rows (c ∷ cs) full = noted_full (changed rows c) cs (length-set rows c.place.index c.row ∙ full)

-- The row that the latest change of a place puts there.
abbrev pub latest : List Change → ℕ → Option Row
latest changes place = option_map (λ change. change.row) (find (λ change. change.place.index == place) (reverse changes))
