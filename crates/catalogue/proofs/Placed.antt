-- What a fetch and a put come to at a table and a row number that no check refuses, and at one that is refused.
use Rattle.std.proofs.Common.{◌≡◌, ℕ, ◌<◌, ◌≤◌, Bool, true, cond, not, eqb, ltb, List, get_or, set, Some, ap, ◌∙◌}
use Rattle.std.proofs.lemmas.Bool.{lt-ltb, le-ltb}
use Rattle.catalogue.specs.declared.row.Row.{Row}
use Rattle.catalogue.specs.Refusals.{first, unless_refused}
use Rattle.catalogue.specs.Rows.{blank, place, place_checks, fetch_reply, put_reply, put_after}

-- the number that the two checks come to
abbrev checked : Bool → Bool → ℕ
checked table row = cond (not table) 1 (cond (not row) 8 0)

module _ (t r : ℕ) where
  pub passes : t < 8 → r < 64 → first (place_checks t r) ≡ 0
  passes h k = ap (λ (b : Bool). checked b (ltb r 64)) (lt-ltb t 8 h) ∙ ap (λ (b : Bool). checked true b) (lt-ltb r 64 k)

  pub no_table : 8 ≤ t → first (place_checks t r) ≡ 1
  no_table h = ap (λ (b : Bool). checked b (ltb r 64)) (le-ltb t 8 h)

  pub no_row : t < 8 → 64 ≤ r → first (place_checks t r) ≡ 8
  no_row h k = ap (λ (b : Bool). checked b (ltb r 64)) (lt-ltb t 8 h) ∙ ap (λ (b : Bool). checked true b) (le-ltb r 64 k)

  pub fetched_in : (rows : List Row) → t < 8 → r < 64 → fetch_reply rows t r ≡ (0, Some (get_or rows (place t r) blank))
  fetched_in rows h k = ap (λ n. unless_refused n (get_or rows (place t r) blank)) (passes h k)

  pub put_told_in : t < 8 → r < 64 → put_reply t r ≡ (0, Some tt)
  put_told_in h k = ap (λ n. unless_refused n tt) (passes h k)

  module _ (rows : List Row) (v : Row) where
    after : ℕ → List Row
    after n = cond (eqb n 0) (set rows (place t r) v) rows

    pub put_in : t < 8 → r < 64 → put_after rows t r v ≡ set rows (place t r) v
    unfolding after
    put_in h k = ap after (passes h k)

    pub put_nowhere : 8 ≤ t → put_after rows t r v ≡ rows
    unfolding after
    put_nowhere h = ap after (no_table h)

    pub put_past_row : t < 8 → 64 ≤ r → put_after rows t r v ≡ rows
    unfolding after
    put_past_row h k = ap after (no_row h k)
