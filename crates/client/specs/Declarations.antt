-- A declaration as it is gathered.
use Rattle.std.specs.Prelude.{ℕ, Bool, cond, not, List, [], ◌∷◌, Option, ◌==◌, nat_lt, slice_index_or, slice_set}
use Rattle.catalogue.specs.declared.refusal.Refusal.{Refusal}
use Rattle.catalogue.specs.Refusals.{first, unless_refused}
use Rattle.sequencing.specs.declared.mode.Mode.{Mode}
use Rattle.sequencing.specs.Modes.{declares, tables}
use Rattle.client.specs.declared.declaration.Access.{Access}

-- At first no table is in it.
abbrev pub nothing_declared : List Mode
nothing_declared = tables (λ t. Mode.None)

-- The mode of an access.
abbrev pub mode_for : Access → Mode
mode_for Access.Read = Mode.Read
mode_for Access.Write = Mode.Write

-- A table above 7 is refused, then one that is already in the declaration.
abbrev pub add_checks : List Mode → ℕ → List (Bool × Refusal)
add_checks modes t =
    (not (nat_lt t 8), Refusal.TableOutOfRange) ∷ (declares (slice_index_or modes t Mode.None), Refusal.TableRepeated) ∷ []

abbrev pub add_reply : List Mode → ℕ → ℕ × Option (Unit {0})
add_reply modes t = unless_refused (first (add_checks modes t)) tt

-- A refused addition leaves the declaration as it was.
abbrev pub add_after : List Mode → ℕ → Access → List Mode
add_after modes t access = cond (first (add_checks modes t) == 0) (slice_set modes t (mode_for access)) modes
