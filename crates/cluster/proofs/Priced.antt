-- What the operations of a transaction cost: all of them, with one more, and what is left at a replica.
use Rattle.std.proofs.Common.{◌≡◌, ℕ, zero, suc, ◌+◌, ◌*◌, ◌≤◌, List, [], ◌∷◌, ◌++◌, length, get_or, sum_by, sym, ap, ◌∙◌, arith}
use Rattle.std.specs.List.{AllByRecursion}
use Rattle.std.proofs.ByRecursion.{All-from_get_or, sum_by_le}
use Rattle.std.proofs.lemmas.List.{take-append-le}
use Rattle.std.proofs.lemmas.List.Sums.{sum_by-take-drop}
use Rattle.versioning.specs.declared.operation.Operation.{Operation}
use Rattle.versioning.specs.Machine.{cost, costs, cost_left}
use Rattle.cluster.specs.declared.transaction.Transaction.{Transaction}
use Rattle.cluster.specs.Orderly.{progress_at, executed_at, Spent}
use Rattle.cluster.specs.Transactions.{transaction_of}
use Rattle.cluster.proofs.Asked.{most_asked}

-- an operation costs 34 at most
class_most : (c : ℕ) → get_or costs c 0 ≤ 34
class_most zero = omega arith
class_most (suc zero) = omega arith
class_most (suc (suc zero)) = omega arith
class_most (suc (suc (suc zero))) = omega arith
class_most (suc (suc (suc (suc zero)))) = omega arith
class_most (suc (suc (suc (suc (suc zero))))) = omega arith
class_most (suc (suc (suc (suc (suc (suc zero)))))) = omega arith
class_most (suc (suc (suc (suc (suc (suc (suc zero))))))) = omega arith
class_most (suc (suc (suc (suc (suc (suc (suc (suc c)))))))) = omega arith

cost_most : (op : Operation) → cost op ≤ 34
cost_most (Operation.Write t r v c) = class_most c
cost_most (Operation.Release t) = omega arith
cost_most Operation.Commit = omega arith
cost_most Operation.Abort = omega arith

sum_most : (ops : List Operation) → sum_by cost ops ≤ length ops * 34
sum_most ops =
    sum_by_le cost 34 ops (All-from_get_or (λ (op : Operation). cost op ≤ 34) ops Operation.Commit (λ i l. cost_most (get_or ops i Operation.Commit)))

module _ (x : Transaction) where
  -- all that it asked costs 850 at most
  pub all_most : x.cost ≤ length x.asked.items * 34
  all_most = omega (arith, x.summed, sum_most x.asked.items)

  -- the cost of what a replica has executed, and of what it has left
  pub left_is : (j : ℕ) → (progress_at x.progress j).cost + cost_left (transaction_of x) j ≡ x.cost
  left_is j =
      ap (λ s. s + cost_left (transaction_of x) j) (x.spent j)
      ∙ sum_by-take-drop cost x.asked.items (executed_at x.progress j)
      ∙ sym x.summed

  -- with one operation more asked, what is executed costs what it did
  pub spent_asked : (op : Operation) → Spent x.progress (x.asked.items ++ (op ∷ []))
  spent_asked op j =
      x.spent j ∙ ap (sum_by cost) (sym (take-append-le (executed_at x.progress j) x.asked.items (op ∷ []) (x.within j)))

-- what transactions cost together at a replica, of which a cluster has 16 at most
pub left_most : (xs : List Transaction) (j : ℕ) → sum_by (λ x. cost_left (transaction_of x) j) xs ≤ length xs * 850
left_most xs j =
    sum_by_le (λ x. cost_left (transaction_of x) j) 850 xs (all_from xs)
  where
    all_from : (ys : List Transaction) → AllByRecursion (λ x. cost_left (transaction_of x) j ≤ 850) ys
    all_from [] = tt
    all_from (y ∷ ys) = (omega (arith, left_is y j, all_most y, most_asked y), all_from ys)
