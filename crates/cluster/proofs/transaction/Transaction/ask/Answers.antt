use Rattle.std.proofs.Common.{◌≡◌, true, ◌≤◌, List, length, sum_by, sym, ap, ◌∙◌, subst, arith, rules}
use Rattle.std.proofs.lemmas.List.{length_push}
use Rattle.std.proofs.lemmas.List.Sums.{sum_by_push}
use Rattle.catalogue.specs.Refusals.{first, unless_refused}
use Rattle.versioning.specs.declared.operation.Operation.{Operation}
use Rattle.versioning.specs.Machine.{cost}
use Rattle.versioning.specs.Words.{is_end, ended, count_writes}
use Rattle.cluster.specs.Orderly.{is_ended, orderly, tally, progress_at, executed_at, Spent}
use Rattle.cluster.specs.Transactions.{course_of, may_ask, replaced_rows}
use Rattle.cluster.proofs.Asked.{room, phased_now, orderly_now, modest_now, tallied_now, after_now}
use Rattle.cluster.proofs.Priced.{all_most, spent_asked}
use Rattle.cluster.proofs.transaction.Transaction.ask.Goals as goal

pub invariant_of-self : goal.invariant_of-self
invariant_of-self c =
    let x = c.args.self.now in
    let op = c.args.operation in
    let accepted : first (may_ask (course_of x) op) ≡ 0 = search rules in
    let phase : is_ended c.match-this.phase ≡ is_end op = search rules in
    let items = sym c.push.ensures in
    record {
      phased = subst (λ (ops : List Operation). ended ops ≡ is_ended c.match-this.phase) items (phased_now x op accepted (is_ended c.match-this.phase) phase);
      allowed = subst (λ (ops : List Operation). orderly x.declared ops (length ops) ≡ true) items (orderly_now x op accepted);
      modest = subst (λ (ops : List Operation). count_writes ops ≤ 16) items (modest_now x op accepted);
      tallied = subst (λ (ops : List Operation). length ops ≤ tally ops) items (tallied_now x op accepted);
      within = (λ j. omega (arith, x.within j, ap length c.push.ensures, length_push x.asked.items op));
      summed = omega (arith, ap (sum_by cost) c.push.ensures, sum_by_push cost x.asked.items op, x.summed, c.cost.ensures.is);
      spent = subst (Spent x.progress) items (spent_asked x op);
    }

pub overflow_add-self : goal.overflow_add-self
overflow_add-self c =
    let x = c.args.self.now in
    let accepted : first (may_ask (course_of x) c.args.operation) ≡ 0 = search rules in
    omega (arith, all_most x, room x c.args.operation accepted, c.cost.ensures.most)

pub returns : goal.returns
returns c =
    let x = c.args.self.now in
    let op = c.args.operation in
    let accepted : first (may_ask (course_of x) op) ≡ 0 = search rules in
    record {
      answer = ap (λ n. unless_refused n tt) (sym accepted);
      after =
          ap (λ (ops : List Operation). record { number = x.number; assigned = x.assigned; course = record { declared = x.declared; asked = ops; executed = executed_at x.progress }; replaced = λ j. replaced_rows ops (progress_at x.progress j).replaced.items (executed_at x.progress j) }) c.push.ensures
          ∙ after_now x op accepted;
    }
