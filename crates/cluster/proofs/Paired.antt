-- Replicas as pairs of a catalogue and its versions.
use Rattle.std.proofs.Common.{◌≡◌, ℕ, zero, suc, ◌<◌, List, [], ◌∷◌, length, get_or, set, refl, ap, le_of_suc-le-suc, not-suc-le-zero}
use Rattle.catalogue.specs.declared.row.Row.{Row}
use Rattle.catalogue.specs.Replicated.{catalogue_of}
use Rattle.versioning.specs.Machine.{Replica}
use Rattle.cluster.specs.View.{paired}

-- as many as there are catalogues
pub paired_length : (cs : List (List Row)) (vs : List (List ℕ)) → length (paired cs vs) ≡ length cs
paired_length [] vs = refl
paired_length (rows ∷ cs) [] = ap suc (paired_length cs [])
paired_length (rows ∷ cs) (v ∷ vs) = ap suc (paired_length cs vs)

-- the one at j has the catalogue and the versions at j
pub paired_at : (cs : List (List Row)) (vs : List (List ℕ)) (j : ℕ) → j < length cs → get_or (paired cs vs) j (record { rows = []; version = [] }) ≡ record { rows = catalogue_of cs j; version = get_or vs j [] }
paired_at [] vs j l = absurd (not-suc-le-zero l)
paired_at (rows ∷ cs) [] zero l = refl
paired_at (rows ∷ cs) [] (suc j) l = paired_at cs [] j (le_of_suc-le-suc l)
paired_at (rows ∷ cs) (v ∷ vs) zero l = refl
paired_at (rows ∷ cs) (v ∷ vs) (suc j) l = paired_at cs vs j (le_of_suc-le-suc l)

-- to replace the one at j is to replace its catalogue and its versions
pub paired_set : (cs : List (List Row)) (vs : List (List ℕ)) (j : ℕ) (rows : List Row) (version : List ℕ) → j < length vs → set (paired cs vs) j (record { rows = rows; version = version }) ≡ paired (set cs j rows) (set vs j version)
paired_set [] vs j rows version l = refl
paired_set (x ∷ cs) [] j rows version l = absurd (not-suc-le-zero l)
paired_set (x ∷ cs) (v ∷ vs) zero rows version l = refl
paired_set (x ∷ cs) (v ∷ vs) (suc j) rows version l =
    ap (λ (rs : List Replica). record { rows = x; version = v } ∷ rs) (paired_set cs vs j rows version (le_of_suc-le-suc l))
