use Rattle.copying.proofs.Alike.{refused_at}
use Rattle.std.proofs.Common.{◌∙◌}
use Rattle.copying.proofs.copy_row.Goals as goal

pub returns-in_default-clause-rows : goal.returns-in_default-clause-rows
returns-in_default-clause-rows g c =
    let before = c.args.replicas.now in
    c.in_default.ensures.same ∙ refused_at (g.R.Replicas.catalogues before) c.args.to c.args.place c.in_default.field-0 (g.R.Replicas.whole before) c.in_default.ensures.answer
