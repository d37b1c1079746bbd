use Rattle.std.proofs.Common.{◌≡◌, ◌<◌, true, false, List, length, set, vec_items, sym, ap, ◌∙◌, subst, arith, rules}
use Rattle.std.specs.List.{remove as without}
use Rattle.std.proofs.lemmas.List.{get_or-set_same}
use Rattle.catalogue.specs.Replicated.{catalogue_of}
use Rattle.sequencing.specs.Sequencer.{counts_of}
use Rattle.versioning.specs.Words.{waits, advance}
use Rattle.versioning.specs.Machine.{Transaction as Unfinished, all_executed}
use Rattle.cluster.specs.declared.transaction.Transaction.{Transaction}
use Rattle.cluster.specs.Transactions.{course_of, transaction_of, transactions_of}
use Rattle.cluster.specs.Rooms.{rising, Room}
use Rattle.cluster.proofs.Facts.{next_tables, declared_below}
use Rattle.cluster.proofs.Holding.{holder_at}
use Rattle.cluster.proofs.Standing.{many, shown_at}
use Rattle.cluster.proofs.Stepped.{stepped_state, place_kept, ordered_kept, room_kept, place_gone, ordered_gone, room_gone}
use Rattle.cluster.proofs.cluster.Cluster.execute.Goals as goal

pub execute-requires : goal.execute-requires
execute-requires g c =
    let s = c.args.self.now in
    let items = vec_items s.unfinished in
    let xs = transactions_of items in
    let x = c.index_mut.result.now in
    let j = c.args.replica.number in
    let within : c.args.i < length items = omega (arith, c.requires.place.0, s.unfinished.ok.0) in
    let shown = shown_at items c.args.i x within c.index_mut.ensures.value in
    let w : waits (course_of x) j ≡ true = sym (ap (λ (u : Unfinished). waits u.course j) shown) ∙ c.requires.waits in
    record {
      place = (c.requires.place.1, w);
      room = λ t n h.
          let held = next_tables x j t w n h in
          let lt : t < 8 = declared_below (course_of x) t held.0 in
          omega (arith, s.room j t lt, holder_at j t xs c.args.i x (omega (arith, within, many items)) shown held.0 held.1, s.sequencer.counted t, s.sequencer.few);
    }

pub invariant_of-self : goal.invariant_of-self
invariant_of-self g c =
    let s = c.args.self.now in
    let items = vec_items s.unfinished in
    let i = c.args.i in
    let j = c.args.replica.number in
    let x = c.index_mut.result.now in
    let y = c.execute.new.self in
    let rows = catalogue_of (g.R.Replicas.catalogues s.replicas) j in
    let within : i < length items = omega (arith, c.requires.place.0, s.unfinished.ok.0) in
    let four : length s.versions ≡ 4 = search rules in
    let lj : j < length s.versions = omega (arith, (g.R.Replicas.whole s.replicas).few, c.requires.place.1) in
    let shown = shown_at items i x within c.index_mut.ensures.value in
    let w : waits (course_of x) j ≡ true = sym (ap (λ (u : Unfinished). waits u.course j) shown) ∙ c.requires.waits in
    let list : vec_items c.remove.new.self ≡ without (set items i y) i = c.remove.ensures.items in
    record {
      reserved = omega (arith, c.remove.ensures.capacity, s.reserved);
      few = omega (arith, c.remove.ensures.len, s.few);
      ordered = ap (λ (l : List Transaction). rising 0 (transactions_of l) s.sequencer.begun) list
          ∙ ordered_gone s.versions s.sequencer.next s.sequencer.begun items i j x y rows c.execute.new.versions within lj shown w c.execute.ensures.after c.execute.ensures.versions s.ordered;
      room = subst (λ (l : List Transaction). Room (set s.versions j c.execute.new.versions) s.sequencer.next (transactions_of l)) (sym list)
          (room_gone s.versions s.sequencer.next s.sequencer.begun items i j x y rows c.execute.new.versions within lj shown w c.execute.ensures.after c.execute.ensures.versions s.room);
    }

pub invariant_of-self-else-all_executed : goal.invariant_of-self-else-all_executed
invariant_of-self-else-all_executed g c =
    let s = c.args.self.now in
    let items = vec_items s.unfinished in
    let i = c.args.i in
    let j = c.args.replica.number in
    let x = c.index_mut.result.now in
    let y = c.execute.new.self in
    let rows = catalogue_of (g.R.Replicas.catalogues s.replicas) j in
    let within : i < length items = omega (arith, c.requires.place.0, s.unfinished.ok.0) in
    let four : length s.versions ≡ 4 = search rules in
    let lj : j < length s.versions = omega (arith, (g.R.Replicas.whole s.replicas).few, c.requires.place.1) in
    let shown = shown_at items i x within c.index_mut.ensures.value in
    let w : waits (course_of x) j ≡ true = sym (ap (λ (u : Unfinished). waits u.course j) shown) ∙ c.requires.waits in
    record {
      reserved = s.reserved;
      few = s.few;
      ordered = ordered_kept s.versions s.sequencer.next s.sequencer.begun items i j x y rows c.execute.new.versions within lj shown w c.execute.ensures.after c.execute.ensures.versions s.ordered;
      room = room_kept s.versions s.sequencer.next s.sequencer.begun items i j x y rows c.execute.new.versions within lj shown w c.execute.ensures.after c.execute.ensures.versions s.room;
    }

pub returns-then-all_executed : goal.returns-then-all_executed
returns-then-all_executed g c =
    let s = c.args.self.now in
    let items = vec_items s.unfinished in
    let i = c.args.i in
    let j = c.args.replica.number in
    let x = c.index_mut.result.now in
    let y = c.execute.new.self in
    let cs = g.R.Replicas.catalogues s.replicas in
    let rows = catalogue_of cs j in
    let within : i < length items = omega (arith, c.requires.place.0, s.unfinished.ok.0) in
    let four : length s.versions ≡ 4 = search rules in
    let lj : j < length s.versions = omega (arith, (g.R.Replicas.whole s.replicas).few, c.requires.place.1) in
    let shown = shown_at items i x within c.index_mut.ensures.value in
    let w : waits (course_of x) j ≡ true = sym (ap (λ (u : Unfinished). waits u.course j) shown) ∙ c.requires.waits in
    let read : c.index.result.now ≡ y = c.index.ensures ∙ get_or-set_same items i y c.index.result.now within in
    let all : all_executed (length cs) (advance j (course_of x)) ≡ true =
    sym (c.if-all_executed.ensures ∙ ap (λ (z : Transaction). all_executed c.count-count.result (course_of z)) read ∙ ap (λ (u : Unfinished). all_executed c.count-count.result u.course) c.execute.ensures.after ∙ ap (λ n. all_executed n (advance j (course_of x))) c.count-count.ensures) in
    record {
      after =
          stepped_state (counts_of s.sequencer) cs s.versions (transactions_of items) i j (transaction_of x) c.requires.place.1 lj shown (g.R.Replicas.catalogues c.execute.new.replicas) c.execute.new.versions (transactions_of (vec_items c.remove.new.self)) true all c.execute.ensures.rows c.execute.ensures.versions
          (ap transactions_of c.remove.ensures.items ∙ place_gone s.versions s.sequencer.next s.sequencer.begun items i j x y rows c.execute.new.versions within lj shown w c.execute.ensures.after c.execute.ensures.versions);
      kept = c.execute.ensures.kept;
    }

pub returns-else-all_executed : goal.returns-else-all_executed
returns-else-all_executed g c =
    let s = c.args.self.now in
    let items = vec_items s.unfinished in
    let i = c.args.i in
    let j = c.args.replica.number in
    let x = c.index_mut.result.now in
    let y = c.execute.new.self in
    let cs = g.R.Replicas.catalogues s.replicas in
    let rows = catalogue_of cs j in
    let within : i < length items = omega (arith, c.requires.place.0, s.unfinished.ok.0) in
    let four : length s.versions ≡ 4 = search rules in
    let lj : j < length s.versions = omega (arith, (g.R.Replicas.whole s.replicas).few, c.requires.place.1) in
    let shown = shown_at items i x within c.index_mut.ensures.value in
    let w : waits (course_of x) j ≡ true = sym (ap (λ (u : Unfinished). waits u.course j) shown) ∙ c.requires.waits in
    let read : c.index.result.now ≡ y = c.index.ensures ∙ get_or-set_same items i y c.index.result.now within in
    let all : all_executed (length cs) (advance j (course_of x)) ≡ false =
    sym (c.if-all_executed.ensures ∙ ap (λ (z : Transaction). all_executed c.count-count.result (course_of z)) read ∙ ap (λ (u : Unfinished). all_executed c.count-count.result u.course) c.execute.ensures.after ∙ ap (λ n. all_executed n (advance j (course_of x))) c.count-count.ensures) in
    record {
      after =
          stepped_state (counts_of s.sequencer) cs s.versions (transactions_of items) i j (transaction_of x) c.requires.place.1 lj shown (g.R.Replicas.catalogues c.execute.new.replicas) c.execute.new.versions (transactions_of (set items i y)) false all c.execute.ensures.rows c.execute.ensures.versions
          (place_kept s.versions s.sequencer.next s.sequencer.begun items i j x y rows c.execute.new.versions within lj shown w c.execute.ensures.after c.execute.ensures.versions);
      kept = c.execute.ensures.kept;
    }
