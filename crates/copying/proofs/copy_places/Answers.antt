use Rattle.std.proofs.Common.{ap, ◌∙◌}
use Rattle.copying.specs.Copied.{copied_row}
use Rattle.copying.proofs.Alike.{copied_more}
use Rattle.copying.proofs.copy_places.Goals as goal

pub loop-place-preserved : goal.loop-place-preserved
loop-place-preserved g c =
    let before = c.args.replicas.now in
    let place = c.loop-place.place in
    record {
      rows =
          c.copy_row.ensures.rows
          ∙ ap (λ cs. copied_row cs c.args.to place) c.loop-place.invariant.rows
          ∙ copied_more (g.R.Replicas.catalogues before) c.args.to place (g.R.Replicas.whole before);
      kept = c.copy_row.ensures.kept ∙ c.loop-place.invariant.kept;
    }
