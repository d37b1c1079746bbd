-- Several catalogues, one for each replica.
use Rattle.std.specs.Prelude.{◌≡◌, ℕ, ◌≤◌, Bool, cond, not, List, [], ◌∷◌, length, Option, ◌==◌, nat_lt, slice_index_or, slice_set}
use Rattle.std.specs.List.{AllByRecursion}
use Rattle.catalogue.specs.declared.refusal.Refusal.{Refusal}
use Rattle.catalogue.specs.declared.row.Row.{Row}
use Rattle.catalogue.specs.Refusals.{first, unless_refused}
use Rattle.catalogue.specs.Rows.{blank, place, place_checks}

-- There are one to four replicas, each with 512 rows.
pub record Whole (catalogues : List (List Row)) : Type 0 where
  pub some : 1 ≤ length catalogues
  pub few : length catalogues ≤ 4
  pub full : AllByRecursion (λ rows. length rows ≡ 512) catalogues

-- A replica that is not there is refused, then a table and a row number as a store does.
abbrev pub replica_checks : List (List Row) → ℕ → ℕ → ℕ → List (Bool × Refusal)
replica_checks cs j t r = (not (nat_lt j (length cs)), Refusal.UnknownReplica) ∷ place_checks t r

-- The catalogue of replica j.
abbrev pub catalogue_of : List (List Row) → ℕ → List Row
catalogue_of cs j = slice_index_or cs j []

-- A fetch answers the row that stands there at the replica.
abbrev pub replica_fetch_reply : List (List Row) → ℕ → ℕ → ℕ → ℕ × Option Row
replica_fetch_reply cs j t r =
    unless_refused (first (replica_checks cs j t r)) (slice_index_or (catalogue_of cs j) (place t r) blank)

-- A put replaces the row there at the replica, and no other; a refused one changes nothing.
abbrev pub replica_put_reply : List (List Row) → ℕ → ℕ → ℕ → ℕ × Option (Unit {0})
replica_put_reply cs j t r = unless_refused (first (replica_checks cs j t r)) tt

abbrev pub replica_put_after : List (List Row) → ℕ → ℕ → ℕ → Row → List (List Row)
replica_put_after cs j t r v =
    cond (first (replica_checks cs j t r) == 0) (slice_set cs j (slice_set (catalogue_of cs j) (place t r) v)) cs
