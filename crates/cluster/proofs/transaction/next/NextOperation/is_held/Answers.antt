use Rattle.std.proofs.Common.{◌∙◌, rules, tests}
use Rattle.std.proofs.lemmas.Iterator.{YieldsList-from_slice}
use Rattle.std.proofs.lemmas.Iterator.Search.{any_from_yields_List}
use Rattle.cluster.proofs.Below.{tables_some}
use Rattle.cluster.proofs.Waiting.{held_by}
use Rattle.cluster.proofs.transaction.next.NextOperation.is_held.Goals as goal

pub returns : goal.returns
returns c =
    let held = held_by c.args.self.now.transaction.now c.args.self.now.replica.number c.args.versions.now in
    any_from_yields_List (λ t. held t.number) _ _ c.any.result c.any.ensures.ran (YieldsList-from_slice c.all.result cc) (λ t b q k. search (rules, tests))
    ∙ tables_some held c.all.result c.all.ensures
