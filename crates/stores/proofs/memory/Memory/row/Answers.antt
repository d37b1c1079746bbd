use Rattle.std.proofs.Common.{arith}
use Rattle.stores.specs.Held.{held}
use Rattle.stores.proofs.HeldRows.{image_at}
use Rattle.stores.proofs.memory.Memory.row.Goals as goal

pub returns : goal.returns
returns c =
    let m = c.args.self.now in
    image_at (held m) c.index.result c.args.place.index c.index-2.result.now c.index-2.ensures c.index.ensures c.args.place.within (omega (arith, m.long, m.rows.ok.0))
