-- The row at a place of a catalogue, in the rows of a memory.
use Rattle.std.proofs.Common.{◌≡◌, ℕ, ◌<◌, ◌≤◌, List, length, get_or, set, take, drop, sym, ap, ◌∙◌, arith, drop-set-lt}
use Rattle.std.proofs.lemmas.List.{get_or_default, get_or-take}
use lib.Seq.{take-set-lt}
use Rattle.catalogue.specs.declared.row.Row.{Row}
use Rattle.catalogue.specs.Rows.{blank}

pub image_at : (rows : List Row) (i place : ℕ) (row : Row) → row ≡ get_or rows i row → i ≡ place → place < 512 → 512 ≤ length rows → row ≡ get_or (take 512 rows) place blank
image_at rows i place row read e within long =
    read
    ∙ get_or_default rows i row blank (omega arith)
    ∙ ap (λ k. get_or rows k blank) e
    ∙ sym (get_or-take 512 rows place blank within)

pub image_set : (rows : List Row) (i place : ℕ) (row : Row) → i ≡ place → place < 512 → take 512 (set rows i row) ≡ set (take 512 rows) place row
image_set rows i place row e within = ap (λ k. take 512 (set rows k row)) e ∙ take-set-lt 512 rows place row within

pub beyond_set : (rows : List Row) (i place : ℕ) (row : Row) → i ≡ place → place < 512 → drop 512 (set rows i row) ≡ drop 512 rows
beyond_set rows i place row e within = ap (λ k. drop 512 (set rows k row)) e ∙ drop-set-lt 512 rows place row within

pub ruleset held_rows = (image_set, beyond_set)
