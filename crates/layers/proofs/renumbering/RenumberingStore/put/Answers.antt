use Rattle.std.proofs.Common.{ap, ◌∙◌}
use Rattle.catalogue.specs.Rows.{put_after}
use Rattle.layers.specs.Numbers.{renumbered}
use Rattle.layers.proofs.Renumbered.{put_moved}
use Rattle.layers.proofs.renumbering.RenumberingStore.put.Goals as goal

pub returns-clause-after : goal.returns-clause-after
returns-clause-after g c =
    let s = c.args.self.now in
    let ns = s.numbers.now in
    let rows = g.S.Store.rows s.below in
    let r = c.args.row in
    let v = c.args.value in
    let table = c.in_ok-table.table in
    ap (renumbered ns.below) (c.put.ensures.after ∙ ap (λ t. put_after rows t r v) c.of.ensures)
    ∙ put_moved ns.below ns.once ns.eight rows table.number r table.within v (g.S.Store.full s.below)
    ∙ ap (λ t. put_after (renumbered ns.below rows) t r v) c.in_ok-table.ensures.found
