use Rattle.std.proofs.Common.{◌&&◌, ◌∙◌, rules, tests}
use Rattle.std.proofs.lemmas.Iterator.{YieldsList-from_slice}
use Rattle.std.proofs.lemmas.Iterator.Search.{any_from_yields_List}
use Rattle.versioning.specs.Words.{writes, mode, released}
use Rattle.cluster.specs.Transactions.{course_of}
use Rattle.cluster.proofs.Below.{tables_some}
use Rattle.cluster.proofs.transaction.Transaction.is_past_recall.Goals as goal

pub returns : goal.returns
returns c =
    let x = course_of c.args.self.now in
    any_from_yields_List (λ t. writes (mode x t.number) && released t.number x.asked) _ _ c.any.result c.any.ensures.ran (YieldsList-from_slice c.all.result cc) (λ t b q k. search (rules, tests))
    ∙ tables_some (λ t. writes (mode x t) && released t x.asked) c.all.result c.all.ensures
