use Rattle.std.proofs.Common.{◌≡◌, get_or, Some, None, Option, unwrap_or, ap, ◌∙◌, rules}
use Rattle.std.specs.Option.{MatchOption}
use Rattle.catalogue.specs.declared.row.Row.{Row}
use Rattle.catalogue.specs.Rows.{blank}
use Rattle.stores.specs.Held.{image}
use Rattle.stores.proofs.Noted.{noted_in}
use Rattle.stores.proofs.change_list.row_at.Goals as goal

or_else : (o : Option Row) (P : Type 0) (row other : Row) → MatchOption o P (λ x. row ≡ x) → (P → row ≡ other) → row ≡ unwrap_or o other
or_else None P row other h f = f h
or_else (Some x) P row other h f = h

pub returns : goal.returns
returns c =
    let m = c.args.memory.now in
    let below = get_or (image m) c.args.place.index blank in
    or_else c.latest.result _ c.unwrap_or_else.result below c.unwrap_or_else.ensures (λ h. search rules)
    ∙ ap (λ (o : Option Row). unwrap_or o below) c.latest.ensures
    ∙ noted_in c.args.place.index m c.args.changes.now c.args.place.within
