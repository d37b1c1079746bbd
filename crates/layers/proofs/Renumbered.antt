-- A store seen under other table numbers.
use Rattle.std.proofs.Common.{◌≡◌, ℕ, ◌/◌, ◌%◌, ◌<◌, ◌≤◌, true, ◌≢◌, List, length, get_or, set, sym, ap, ◌∙◌, ⊎_elim, ap₂, arith, length-set}
use Rattle.std.proofs.lemmas.List.FromFn.{get_or-map-range_with_len}
use Rattle.std.proofs.lemmas.List.{ext_get_or, get_or-set_same, get_or-set_other}
use Rattle.std.proofs.lemmas.Bool.{cases_eq, cases_lt}
use Rattle.catalogue.specs.declared.row.Row.{Row}
use Rattle.catalogue.specs.Refusals.{first, unless_refused}
use Rattle.catalogue.specs.Rows.{blank, place, place_checks, fetch_reply, put_after}
use Rattle.catalogue.proofs.Placed.{passes, no_row, put_in, put_past_row}
use Rattle.layers.specs.Numbers.{permutation, moved, moved_row, renumbered, renumbered_full}
use Rattle.layers.proofs.Permuted.{small, apart}

module _ (ns : List ℕ) (once : permutation ns ≡ true) (eight : length ns ≡ 8) (rows : List Row) where
  renumbered_at : (rows : List Row) (k : ℕ) → k < 512 → get_or (renumbered ns rows) k blank ≡ moved_row ns rows k
  unfolding renumbered
  renumbered_at rows k h = get_or-map-range_with_len (moved_row ns rows) 0 512 k k blank h (omega arith)

  -- no two places lie at one below
  moved_apart : (j k : ℕ) → j < 512 → k < 512 → moved ns j ≡ moved ns k → j ≡ k
  moved_apart j k hj hk e =
      let same : get_or ns (j / 64) 0 ≡ get_or ns (k / 64) 0 = omega arith in
      let tables : j / 64 ≡ k / 64 = apart ns once eight (j / 64) (k / 64) (omega arith) (omega arith) same in
      omega arith

  module _ (v : Row) (full : length rows ≡ 512) (p : ℕ) (within : p < 512) where
    set_moved : renumbered ns (set rows (moved ns p) v) ≡ set (renumbered ns rows) p v
    set_moved =
        ext_get_or blank _ _ (renumbered_full ns (set rows (moved ns p) v) ∙ sym (length-set (renumbered ns rows) p v ∙ renumbered_full ns rows)) (λ q inside. at q (omega (arith, renumbered_full ns (set rows (moved ns p) v))))
      where
        at : (q : ℕ) → q < 512 → get_or (renumbered ns (set rows (moved ns p) v)) q blank ≡ get_or (set (renumbered ns rows) p v) q blank
        at q lt =
            renumbered_at (set rows (moved ns p) v) q lt
            ∙ ⊎_elim
            (λ (e : q ≡ p).
            let inside : moved ns p < length rows = omega (arith, small ns once eight (p / 64) (omega arith), full) in
            ap (λ k. get_or (set rows (moved ns p) v) (moved ns k) blank) e
            ∙ get_or-set_same rows (moved ns p) v blank inside
            ∙ sym (ap (λ k. get_or (set (renumbered ns rows) p v) k blank) e ∙ get_or-set_same (renumbered ns rows) p v blank (omega (arith, renumbered_full ns rows))))
            (λ (ne : q ≢ p).
            let far : moved ns q ≢ moved ns p = λ (z : moved ns q ≡ moved ns p). ne (moved_apart q p lt within z) in
            get_or-set_other rows (moved ns p) (moved ns q) v blank far
            ∙ sym (get_or-set_other (renumbered ns rows) p q v blank ne ∙ renumbered_at rows q lt))
            (cases_eq q p)

  module _ (t r : ℕ) (table : t < 8) where
    below : get_or ns t 0 < 8
    below = small ns once eight t table

    checked_moved : first (place_checks (get_or ns t 0) r) ≡ first (place_checks t r)
    checked_moved =
        ⊎_elim
        (λ (row : r < 64). passes (get_or ns t 0) r below row ∙ sym (passes t r table row))
        (λ (no : 64 ≤ r). no_row (get_or ns t 0) r below no ∙ sym (no_row t r table no))
        (cases_lt r 64)

    there : r < 64 → moved ns (place t r) ≡ place (get_or ns t 0) r
    there row =
        let table : place t r / 64 ≡ t = omega arith in
        let same : place t r % 64 ≡ r = omega arith in
        ap (λ k. place (get_or ns k 0) (place t r % 64)) table ∙ ap (λ k. place (get_or ns t 0) k) same

    pub fetched_moved : fetch_reply rows (get_or ns t 0) r ≡ fetch_reply (renumbered ns rows) t r
    fetched_moved =
        ⊎_elim
        (λ (row : r < 64).
        ap₂ unless_refused checked_moved (ap (λ k. get_or rows k blank) (sym (there row)) ∙ sym (renumbered_at rows (place t r) (omega arith))))
        (λ (no : 64 ≤ r).
        ap (λ n. unless_refused n (get_or rows (place (get_or ns t 0) r) blank)) (no_row (get_or ns t 0) r below no)
        ∙ sym (ap (λ n. unless_refused n (get_or (renumbered ns rows) (place t r) blank)) (no_row t r table no)))
        (cases_lt r 64)

    pub put_moved : (v : Row) → length rows ≡ 512 → renumbered ns (put_after rows (get_or ns t 0) r v) ≡ put_after (renumbered ns rows) t r v
    put_moved v full =
        ⊎_elim
        (λ (row : r < 64).
        ap (renumbered ns) (put_in (get_or ns t 0) r rows v below row ∙ ap (λ k. set rows k v) (sym (there row)))
        ∙ set_moved v full (place t r) (omega arith)
        ∙ sym (put_in t r (renumbered ns rows) v table row))
        (λ (no : 64 ≤ r).
        ap (renumbered ns) (put_past_row (get_or ns t 0) r rows v below no) ∙ sym (put_past_row t r (renumbered ns rows) v table no))
        (cases_lt r 64)
