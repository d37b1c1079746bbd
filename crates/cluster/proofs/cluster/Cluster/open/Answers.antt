use Rattle.std.proofs.Common.{length, vec_items}
use Rattle.sequencing.specs.Sequencer.{counts_of}
use Rattle.catalogue.specs.Replicated.{catalogue_of}
use Rattle.cluster.proofs.Opened.{opened}
use Rattle.cluster.proofs.cluster.Cluster.open.Goals as goal

pub returns : goal.returns
returns g c =
    let before = g.R.Replicas.catalogues c.args.replicas in
    record {
      state = opened (counts_of c.new.result) (g.R.Replicas.catalogues c.copy_first.new.replicas) (vec_items c.in-Ok.unfinished) (length before) (catalogue_of before 0) c.new.ensures c.copy_first.ensures.rows (g.R.Replicas.whole c.args.replicas).few c.in-Ok.ensures.items;
      kept = c.copy_first.ensures.kept;
    }
