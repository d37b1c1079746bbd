use Rattle.std.proofs.Common.{◌≡◌}
use Rattle.layers.proofs.Overlay.{Flushed}
use Rattle.layers.proofs.cache.Cache.into_below.Given as goal

abbrev pub invariant-loop-k : goal.invariant-loop-k
invariant-loop-k g l =
    Flushed l.line-items (g.S.Store.rows l.initial.below) (g.S.Store.rows l.below) l.k × (g.S.Store.lent l.below ≡ g.S.Store.lent l.initial.below)
