-- How a transaction declares a table.
use Rattle.std.specs.Prelude.{ℕ, Bool, true, false, List, [], ◌∷◌}
use Rattle.std.specs.List.{list_any}
use Rattle.sequencing.specs.declared.mode.Mode.{Mode}

-- A table is declared when its mode is read or write.
abbrev pub declares : Mode → Bool
declares Mode.None = false
declares Mode.Read = true
declares Mode.Write = true

-- At least one element passes.
abbrev pub some : {A : Type 0} → (A → Bool) → List A → Bool
some p xs = list_any p xs

-- At least one table is declared.
abbrev pub declares_any : List Mode → Bool
declares_any modes = some declares modes

-- A list over the eight tables.
abbrev pub tables : {A : Type 0} → (ℕ → A) → List A
tables f = f 0 ∷ f 1 ∷ f 2 ∷ f 3 ∷ f 4 ∷ f 5 ∷ f 6 ∷ f 7 ∷ []
