use Rattle.std.proofs.Common.{◌≡◌, ◌<◌, List, get_or, set, vec_items, sym, refl, ap, ◌∙◌, arith}
use Rattle.std.proofs.lemmas.List.{map-set}
use Rattle.sequencing.specs.Sequencer.{counts_of}
use Rattle.versioning.specs.Machine.{Transaction as Unfinished, finished}
use Rattle.cluster.specs.Transactions.{transaction_of, transactions_of}
use Rattle.cluster.specs.Orderly.{bit}
use Rattle.cluster.specs.Rooms.{rising, holds, holders}
use Rattle.cluster.specs.View.{state_of}
use Rattle.cluster.proofs.AskedAt.{with_unfinished, asked_reply, asked_state, rising_set, holders_set, holds_asked, number_asked}
use Rattle.cluster.proofs.Standing.{many, shown_at}
use Rattle.cluster.proofs.cluster.Cluster.ask.Goals as goal

pub invariant_of-self : goal.invariant_of-self
invariant_of-self g c =
    let s = c.args.self.now in
    let items = vec_items s.unfinished in
    let xs = transactions_of items in
    let i = c.in-Some.i in
    let x = c.index_mut.result.now in
    let y = c.ask.new.self in
    let at = c.in-Some.ensures in
    let shown = shown_at items i x (omega (arith, at.within, many items)) c.index_mut.ensures.value in
    let list : transactions_of (set items i y) ≡ set xs i (transaction_of y) = map-set transaction_of items i y in
    let number : (transaction_of y).number ≡ (get_or xs i finished).number = ap (λ (u : Unfinished). u.number) c.ask.ensures.after ∙ number_asked (transaction_of x) c.args.operation ∙ sym (ap (λ (u : Unfinished). u.number) shown) in
    record {
      reserved = s.reserved;
      few = s.few;
      ordered = ap (λ (us : List Unfinished). rising 0 us (counts_of s.sequencer).begun) list ∙ rising_set 0 xs i (counts_of s.sequencer).begun (transaction_of y) at.within number ∙ s.ordered;
      room = (λ j t l.
          let holding : holds j t (transaction_of y) ≡ holds j t (get_or xs i finished) = ap (holds j t) c.ask.ensures.after ∙ holds_asked x c.args.operation j t ∙ sym (ap (holds j t) shown) in
          omega (arith, s.room j t l, ap (holders j t) list, holders_set j t xs i (transaction_of y) at.within, ap bit holding));
    }

pub returns : goal.returns
returns g c =
    let s = c.args.self.now in
    let st = state_of g.R.Replicas.catalogues s in
    let items = vec_items s.unfinished in
    let i = c.in-Some.i in
    let x = c.index_mut.result.now in
    let y = c.ask.new.self in
    let at = c.in-Some.ensures in
    let shown = shown_at items i x (omega (arith, at.within, many items)) c.index_mut.ensures.value in
    let begun : c.args.number < st.counts.begun = omega (arith, c.begun.ensures) in
    record {
      answer = c.ask.ensures.answer ∙ sym (asked_reply st c.args.number i (transaction_of x) begun at shown c.args.operation);
      after =
          ap (with_unfinished st) (map-set transaction_of items i y ∙ ap (set st.unfinished i) c.ask.ensures.after)
          ∙ sym (asked_state st c.args.number i (transaction_of x) begun at shown c.args.operation);
      kept = refl;
    }
