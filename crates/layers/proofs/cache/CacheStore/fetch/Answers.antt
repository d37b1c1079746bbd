use Rattle.std.proofs.Common.{◌∙◌}
use Rattle.layers.proofs.Overlay.{fetched_line, fetched_below}
use Rattle.layers.proofs.cache.CacheStore.fetch.Goals as goal

pub returns-in-Some-clause-answer : goal.returns-in-Some-clause-answer
returns-in-Some-clause-answer g c =
    let s = c.args.self.now in
    fetched_line s.lines (g.S.Store.rows s.below) c.args.table c.args.row c.in_ok-place.place.index c.in_ok-place.ensures.found c.in-Some.row c.in-Some.ensures

pub returns-in-None-clause-answer : goal.returns-in-None-clause-answer
returns-in-None-clause-answer g c =
    let s = c.args.self.now in
    c.fetch.ensures.answer ∙ fetched_below s.lines (g.S.Store.rows s.below) c.args.table c.args.row c.in_ok-place.place.index c.in_ok-place.ensures.found c.in-None.ensures
