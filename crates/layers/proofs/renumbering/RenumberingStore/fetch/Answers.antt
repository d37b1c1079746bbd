use Rattle.std.proofs.Common.{ap, ◌∙◌}
use Rattle.catalogue.specs.Rows.{fetch_reply}
use Rattle.layers.specs.Numbers.{renumbered}
use Rattle.layers.proofs.Renumbered.{fetched_moved}
use Rattle.layers.proofs.renumbering.RenumberingStore.fetch.Goals as goal

pub returns-clause-answer : goal.returns-clause-answer
returns-clause-answer g c =
    let s = c.args.self.now in
    let ns = s.numbers.now in
    let rows = g.S.Store.rows s.below in
    let table = c.in_ok-table.table in
    c.fetch.ensures.answer
    ∙ ap (λ t. fetch_reply rows t c.args.row) c.of.ensures
    ∙ fetched_moved ns.below ns.once ns.eight rows table.number c.args.row table.within
    ∙ ap (λ t. fetch_reply (renumbered ns.below rows) t c.args.row) c.in_ok-table.ensures.found
