use Rattle.std.proofs.Common.{sym, ap, ◌∙◌, rules, tests}
use Rattle.std.proofs.lemmas.Iterator.{YieldsList-from_slice}
use Rattle.std.proofs.lemmas.Iterator.Search.{all_from_yields_List}
use Rattle.std.proofs.lemmas.List.Folds.{list_all-map}
use Rattle.std.specs.List.{list_all}
use Rattle.catalogue.specs.declared.table.Table.{Table}
use Rattle.layers.specs.Numbers.{in_order}
use Rattle.layers.proofs.numbers.checks.is_permutation.Goals as goal

pub returns : goal.returns
returns c =
    let numbers = c.args.numbers.now in
    all_from_yields_List (λ (t : Table). in_order numbers t.number) _ _ _ c.all-2.ensures.ran (YieldsList-from_slice c.all.result cc) (λ x b q k. search (rules, tests))
    ∙ sym (list_all-map (in_order numbers) (λ (t : Table). t.number) c.all.result)
    ∙ ap (list_all (in_order numbers)) c.all.ensures
