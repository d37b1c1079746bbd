-- A cluster as the machine has it.
use Rattle.std.specs.Prelude.{◌≡◌, ℕ, ◌<◌, Bool, true, cond, List, [], ◌∷◌, length, Some, None, vec_items, vec_len, Option, slice_index_or, slice_set}
use Rattle.std.specs.List.{remove as without}
use Rattle.std.specs.Option.{option_map}
use Rattle.catalogue.specs.declared.row.Row.{Row}
use Rattle.catalogue.specs.Replicated.{replica_fetch_reply}
use Rattle.catalogue.specs.Refusals.{first, unless_refused}
use Rattle.sequencing.specs.Modes.{tables}
use Rattle.sequencing.specs.Sequencer.{counts_of}
use Rattle.versioning.specs.Words.{advance, next, waits}
use Rattle.versioning.specs.declared.operation.Operation.{Operation}
use Rattle.versioning.specs.Machine.{State, Replica, Transaction, finished, load, qualifies_at, least, and_then, known, course, asking, kept_if_refused, replica, version, rows_after, version_after, all_executed, step_reply, step_after}
use Rattle.cluster.specs.declared.cluster.Cluster.{Cluster}
use Rattle.cluster.specs.declared.replica_index.ReplicaIndex.{ReplicaIndex}
use Rattle.cluster.specs.Transactions.{transactions_of, may_ask, executed_after}

-- Each catalogue with the versions of its replica.
abbrev pub paired : List (List Row) → List (List ℕ) → List Replica
paired [] vs = []
paired (rows ∷ cs) [] = record { rows = rows; version = [] } ∷ paired cs []
paired (rows ∷ cs) (v ∷ vs) = record { rows = rows; version = v } ∷ paired cs vs

-- The machine's state, by the meaning of the replicas.
abbrev pub state_of : {R : Type 0} → (R → List (List Row)) → Cluster R → State
state_of catalogues c =
    record { counts = counts_of c.sequencer; replicas = paired (catalogues c.replicas) c.versions; unfinished = transactions_of (vec_items c.unfinished) }

-- The replicas that a cluster is over.
abbrev pub replicas_of : {R : Type 0} → Cluster R → R
replicas_of c = c.replicas

-- What is lent to each replica is after a call what it was before.
abbrev pub Keeps : {R L : Type 0} → (R → L) → Cluster R → Cluster R → Type 0
Keeps lents before after = lents (replicas_of after) ≡ lents (replicas_of before)

-- What asking an operation of the transaction k answers and leaves: write, release, commit and abort are such.
abbrev pub ask_reply : State → ℕ → Operation → ℕ × Option (Unit {0})
ask_reply s k op = unless_refused (first (known s k ∷ may_ask (course s k) op)) tt

abbrev pub ask_after : State → ℕ → Operation → State
ask_after s k op = kept_if_refused (first (known s k ∷ may_ask (course s k) op)) s (asking s k op)

-- The next operation of the i-th unfinished transaction executed at the replica j.
abbrev pub stepped_at : State → ℕ → ℕ → State
stepped_at s i j =
    let x = slice_index_or s.unfinished i finished in
    record {
      counts = s.counts;
      replicas = slice_set s.replicas j (record { rows = rows_after (next x.course j) (x.replaced j) (replica s j).rows; version = tables (λ t. version_after x.course j t (version s j t)) });
      unfinished = cond (all_executed (length s.replicas) (advance j x.course)) (without s.unfinished i) (slice_set s.unfinished i (executed_after x j (replica s j).rows));
    }

-- A step of the transaction k at the replica j is accepted, and executes the next operation of the i-th unfinished one there; or it is refused with the number n, and nothing changes.
pub record StepsAt {R : Type 0} (catalogues : R → List (List Row)) (c : Cluster R) (k j i : ℕ) : Type 0 where
  pub within : i < vec_len c.unfinished
  pub there : j < length (catalogues c.replicas)
  pub waiting : waits (slice_index_or (transactions_of (vec_items c.unfinished)) i finished).course j ≡ true
  pub answer : step_reply (state_of catalogues c) k j ≡ (0, Some tt)
  pub after : step_after (state_of catalogues c) k j ≡ stepped_at (state_of catalogues c) i j

pub record StepRefused (s : State) (k j n : ℕ) : Type 0 where
  pub answer : step_reply s k j ≡ (n, None)
  pub after : step_after s k j ≡ s

-- The number of a replica, if one is told.
abbrev pub number_of : Option ReplicaIndex → Option ℕ
number_of o = option_map (λ r. r.number) o

-- The replica j can answer a read of the table t by the transaction x; the one that does.
abbrev pub fits : State → Transaction → ℕ → ℕ → Bool
fits s x t j = qualifies_at x t j (replica s j).version

abbrev pub choice : State → Transaction → ℕ → Option ℕ
choice s x t = least (fits s x t) (load s) (length s.replicas)

-- What a read answers at the replica j: the row of the table t that is fetched there, and the replica's number.
abbrev pub fetched : List (List Row) → ℕ → ℕ → ℕ → ℕ × Option (Row × ℕ)
fetched cs t r j = and_then (replica_fetch_reply cs j t r) (λ x. (0, Some (x, j)))
