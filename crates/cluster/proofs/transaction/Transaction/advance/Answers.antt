use Rattle.std.proofs.Common.{◌≡◌, ℕ, ◌+◌, ◌<◌, List, [], ◌∷◌, ◌++◌, length, ap, ◌∙◌, ap₂, arith, rules}
use Rattle.std.proofs.lemmas.List.{get_or_default}
use Rattle.catalogue.specs.declared.row.Row.{Row}
use Rattle.versioning.specs.Machine.{cost}
use Rattle.versioning.specs.Words.{next}
use Rattle.cluster.specs.declared.transaction.progress.Progress.{Progress}
use Rattle.cluster.specs.Transactions.{course_of}
use Rattle.cluster.proofs.Asked.{most_asked}
use Rattle.cluster.proofs.Priced.{all_most, left_is}
use Rattle.cluster.proofs.Waiting.{waits_below}
use Rattle.cluster.proofs.Executed.{executed_now, replaced_now, within_now, spent_now}
use Rattle.cluster.proofs.transaction.Transaction.advance.Goals as goal

pub record-requires : goal.record-requires
record-requires c =
    let x = c.args.self.now in
    let j = c.args.replica.number in
    let there : j < length x.progress = search rules in
    let at = get_or_default x.progress j c.index-self-replica.result (record { replaced = record { items = []; spare = [] }; cost = 0 }) there in
    record {
      room = omega (arith, ap (λ (p : Progress). length p.replaced.items) at, waits_below x j c.requires, most_asked x);
      fits = omega (arith, ap (λ (p : Progress). p.cost) at, left_is x j, all_most x, most_asked x, c.cost-price.ensures.most);
    }

pub invariant_of-self : goal.invariant_of-self
invariant_of-self c =
    let x = c.args.self.now in
    let j = c.args.replica.number in
    let p = c.record.new.self in
    let there : j < length x.progress = search rules in
    let at = get_or_default x.progress j c.index-self-replica.result (record { replaced = record { items = []; spare = [] }; cost = 0 }) there in
    let more = c.record.ensures.replaced ∙ ap (λ (q : Progress). q.replaced.items ++ (c.args.old ∷ [])) at in
    let price : c.cost-price.result ≡ cost (next (course_of x) j) = c.cost-price.ensures.is ∙ ap cost c.operation.ensures.is in
    record {
      phased = x.phased;
      allowed = x.allowed;
      modest = x.modest;
      tallied = x.tallied;
      within = within_now x j c.args.old p there more (waits_below x j c.requires);
      summed = x.summed;
      spent = spent_now x j c.args.old p there more (waits_below x j c.requires) (c.record.ensures.cost ∙ ap₂ ◌+◌ (ap (λ (q : Progress). q.cost) at) price);
    }

pub returns : goal.returns
returns c =
    let x = c.args.self.now in
    let j = c.args.replica.number in
    let p = c.record.new.self in
    let there : j < length x.progress = search rules in
    let at = get_or_default x.progress j c.index-self-replica.result (record { replaced = record { items = []; spare = [] }; cost = 0 }) there in
    let more = c.record.ensures.replaced ∙ ap (λ (q : Progress). q.replaced.items ++ (c.args.old ∷ [])) at in
    ap₂ (λ (e : ℕ → ℕ) (r : ℕ → List (ℕ × Row)). record { number = x.number; assigned = x.assigned; course = record { declared = x.declared; asked = x.asked.items; executed = e }; replaced = r })
    (executed_now x j c.args.old p there more) (replaced_now x j c.args.old p there more)
