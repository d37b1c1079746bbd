use Rattle.std.proofs.Common.{◌≡◌, length, set, sym, refl, ap, ◌∙◌, rules}
use Rattle.catalogue.proofs.Placed.{put_in}
use Rattle.layers.specs.Lines.{overlaid}
use Rattle.layers.proofs.Overlay.{overlay_evicted}
use Rattle.layers.proofs.cache.CacheStore.put.Goals as goal

pub returns-clause-after : goal.returns-clause-after
returns-clause-after g c =
    let s = c.args.self.now in
    let t = c.args.table in
    let r = c.args.row in
    let v = c.args.value in
    let rows = g.S.Store.rows s.below in
    let p = c.in_ok-place.ensures.found in
    let sixteen : length s.lines ≡ 16 = search rules in
    rw (c.index-index.ensures, c.evict.ensures.rows, c.index-index.ensures) refl
    ∙ overlay_evicted s.lines rows c.in_ok-place.place.index v c.in_ok-place.place.within sixteen (g.S.Store.full s.below)
    ∙ ap (λ k. set (overlaid s.lines rows) k v) p.is
    ∙ sym (put_in t r (overlaid s.lines rows) v p.table p.row)
