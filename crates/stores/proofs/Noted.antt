-- Changes laid over rows, one after the other.
use Rattle.std.proofs.Common.{◌≡◌, ℕ, ◌<◌, ◌≢◌, Bool, cond, eqb, List, [], ◌∷◌, length, reverse, get_or, set, Some, None, Option, unwrap_or, sym, refl, ap, ◌∙◌, ⊎_elim, arith, length-set}
use Rattle.std.specs.Option.{option_map, option_or}
use Rattle.std.specs.List.{find}
use Rattle.std.proofs.lemmas.List.{get_or-set_same, get_or-set_other, reverse-append}
use Rattle.std.proofs.lemmas.List.Folds.{find-append}
use Rattle.std.proofs.lemmas.Bool.{cases_eq, eq-eqb, ne_eqb}
use Rattle.catalogue.specs.declared.row.Row.{Row}
use Rattle.catalogue.specs.Rows.{blank}
use Rattle.stores.specs.declared.change_list.Change.{Change}
use Rattle.stores.specs.declared.memory.Memory.{Memory}
use Rattle.stores.specs.Held.{image, image_full}
use Rattle.stores.specs.Changes.{changed, noted, latest}

module _ (place : ℕ) where
  abbrev is_there : Change → Bool
  is_there c = eqb c.place.index place

  abbrev row_of : Option Change → Row → Row
  row_of c row = unwrap_or (option_map (λ (x : Change). x.row) c) row

  -- the first of all changes, where no later one is of the place
  one : (rows : List Row) (c : Change) → place < length rows → row_of (cond (is_there c) (Some c) None) (get_or rows place blank) ≡ get_or (changed rows c) place blank
  one rows c inside =
      ⊎_elim
      (λ (e : c.place.index ≡ place).
      ap (λ (b : Bool). row_of (cond b (Some c) None) (get_or rows place blank)) (eq-eqb _ _ e)
      ∙ sym (ap (λ k. get_or (set rows k c.row) place blank) e ∙ get_or-set_same rows place c.row blank inside))
      (λ (ne : c.place.index ≢ place).
      let apart : place ≢ c.place.index = λ (z : place ≡ c.place.index). ne (sym z) in
      ap (λ (b : Bool). row_of (cond b (Some c) None) (get_or rows place blank)) (ne_eqb _ _ ne)
      ∙ sym (get_or-set_other rows c.place.index place c.row blank apart))
      (cases_eq c.place.index place)

  either : (later : Option Change) (rows : List Row) (c : Change) → place < length rows → row_of (option_or later (cond (is_there c) (Some c) None)) (get_or rows place blank) ≡ row_of later (get_or (changed rows c) place blank)
  either None rows c inside = one rows c inside
  either (Some x) rows c inside = refl

  -- a row is that of the latest change of its place, or the one below
  noted_at : (rows : List Row) (changes : List Change) → place < length rows → unwrap_or (latest changes place) (get_or rows place blank) ≡ get_or (noted rows changes) place blank
  noted_at rows [] inside = refl
  noted_at rows (c ∷ cs) inside =
      ap (λ (xs : List Change). row_of (find is_there xs) (get_or rows place blank)) (reverse-append (c ∷ []) cs)
      ∙ ap (λ (o : Option Change). row_of o (get_or rows place blank)) (find-append is_there (reverse cs) (c ∷ []))
      ∙ either (find is_there (reverse cs)) rows c inside
      ∙ noted_at (changed rows c) cs (omega (arith, length-set rows c.place.index c.row))

  pub noted_in : (m : Memory) (changes : List Change) → place < 512 → unwrap_or (latest changes place) (get_or (image m) place blank) ≡ get_or (noted (image m) changes) place blank
  noted_in m changes within = noted_at (image m) changes (omega (arith, image_full m))
