use Rattle.std.proofs.Common.{◌≡◌, cond, eqb, List, [], ◌∷◌, ◌++◌, vec_items, sym, ap, ◌∙◌, subst, arith}
use Rattle.std.proofs.lemmas.List.{map_push}
use Rattle.sequencing.specs.declared.sequencer.Begun.{Begun}
use Rattle.sequencing.specs.Sequencer.{Counts, counts_of, admitted, admitted_after, begin_refusal}
use Rattle.versioning.specs.Machine.{Transaction as Unfinished}
use Rattle.cluster.specs.Transactions.{transaction_of, transactions_of, begun_as}
use Rattle.cluster.specs.Rooms.{rising, Room}
use Rattle.cluster.specs.View.{state_of}
use Rattle.cluster.proofs.Answered.{accepted}
use Rattle.cluster.proofs.Begun.{rising_push, room_push}
use Rattle.cluster.proofs.cluster.Cluster.admit.Goals as goal

pub invariant_of-self-2 : goal.invariant_of-self-2
invariant_of-self-2 g c =
    let s = c.args.self.now in
    let st = state_of g.R.Replicas.catalogues s in
    let modes = c.args.modes in
    let items = vec_items s.unfinished in
    let begun = c.in_ok-begun.begun in
    let x = c.new.result in
    let a = accepted (begin_refusal st.counts modes) (admitted st.counts modes) begun c.in_ok-begun.ensures.answer in
    let counts : counts_of c.begin.new.self ≡ admitted_after st.counts modes = c.begin.ensures.after ∙ ap (λ k. cond (eqb k 0) (admitted_after st.counts modes) st.counts) a.0 in
    let list : transactions_of (vec_items c.push_reserved.new.self) ≡ transactions_of items ++ begun_as modes begun ∷ [] =
    ap transactions_of c.push_reserved.ensures.items ∙ map_push transaction_of items x ∙ ap (λ (u : Unfinished). transactions_of items ++ u ∷ []) c.new.ensures in
    record {
      reserved = omega (arith, c.push_reserved.ensures.capacity, s.reserved);
      few = omega (arith, c.push_reserved.ensures.len, c.requires);
      ordered = ap (λ (us : List Unfinished). rising 0 us (counts_of c.begin.new.self).begun) list
          ∙ ap (λ (k : Counts). rising 0 (transactions_of items ++ begun_as modes begun ∷ []) k.begun) counts
          ∙ rising_push 0 (transactions_of items) st.counts.begun (begun_as modes begun) s.ordered (ap (λ (b : Begun). b.number) a.1);
      room = subst (λ (us : List Unfinished). Room s.versions (counts_of c.begin.new.self).next us) (sym list)
          (subst (λ (k : Counts). Room s.versions k.next (transactions_of items ++ begun_as modes begun ∷ [])) (sym counts)
          (room_push s.versions s.sequencer.next (transactions_of items) modes begun s.room));
    }
