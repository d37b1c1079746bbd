use Rattle.layers.proofs.Overlay.{flushed_all}
use Rattle.layers.proofs.cache.Cache.into_below.Goals as goal

pub returns : goal.returns
returns g c =
    let s = c.args.self in
    let rows = g.S.Store.rows in
    record {
      rows = flushed_all s.lines (rows s.below) (rows c.loop-k.below) c.loop-k.k c.loop-k-test.false (g.S.Store.full c.loop-k.below) c.loop-k.invariant.0;
      lent = c.loop-k.invariant.1;
    }
