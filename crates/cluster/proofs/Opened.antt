-- A cluster as it is opened.
use Rattle.std.proofs.Common.{◌≡◌, ℕ, zero, suc, ◌≤◌, List, [], replicate, refl, ap, ◌∙◌, arith}
use Rattle.catalogue.specs.declared.row.Row.{Row}
use Rattle.sequencing.specs.Modes.{tables}
use Rattle.sequencing.specs.Sequencer.{Counts, fresh}
use Rattle.versioning.specs.Machine.{Replica, start}
use Rattle.cluster.specs.declared.transaction.Transaction.{Transaction}
use Rattle.cluster.specs.Transactions.{transactions_of}
use Rattle.cluster.specs.View.{paired}

-- versions of 0 for four replicas
abbrev none : List (List ℕ)
none = replicate 4 (tables (λ t. 0))

paired_none : (n : ℕ) (rows : List Row) → n ≤ 4 → paired (replicate n rows) none ≡ replicate n (record { rows = rows; version = tables (λ t. 0) })
paired_none zero rows l = refl
paired_none (suc zero) rows l = refl
paired_none (suc (suc zero)) rows l = refl
paired_none (suc (suc (suc zero))) rows l = refl
paired_none (suc (suc (suc (suc zero)))) rows l = refl
paired_none (suc (suc (suc (suc (suc n))))) rows l = absurd (omega arith)

pub opened : (counts : Counts) (catalogues : List (List Row)) (items : List Transaction) (n : ℕ) (rows : List Row) → counts ≡ fresh → catalogues ≡ replicate n rows → n ≤ 4 → items ≡ [] → record { counts = counts; replicas = paired catalogues none; unfinished = transactions_of items } ≡ start n rows
opened counts catalogues items n rows c r few i =
    ap (λ (x : Counts). record { counts = x; replicas = paired catalogues none; unfinished = transactions_of items }) c
    ∙ ap (λ (x : List Replica). record { counts = fresh; replicas = x; unfinished = transactions_of items }) (ap (λ (x : List (List Row)). paired x none) r ∙ paired_none n rows few)
    ∙ ap (λ (x : List Transaction). record { counts = fresh; replicas = replicate n (record { rows = rows; version = tables (λ t. 0) }); unfinished = transactions_of x }) i
