use Rattle.std.proofs.Common.{List, vec_items, sym, subst, ap, ◌∙◌}
use Rattle.std.specs.List.{position}
use Rattle.cluster.specs.declared.transaction.Transaction.{Transaction}
use Rattle.cluster.specs.Transactions.{transactions_of, Stands}
use Rattle.cluster.proofs.Standing.{has_number, stands_at}
use Rattle.cluster.proofs.cluster.Cluster.position.Goals as goal

pub returns : goal.returns
returns g c =
    let items = vec_items c.args.self.now.unfinished in
    let is = c.first_numbered.ensures ∙ ap (λ (xs : List Transaction). position (has_number c.args.number) xs) c.as_slice.ensures.value in
    subst (Stands c.args.number (transactions_of items)) (sym is) (stands_at c.args.number items)
