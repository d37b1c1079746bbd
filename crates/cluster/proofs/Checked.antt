-- The checks of a step, and the state after it.
use Rattle.std.proofs.Common.{◌≡◌, ℕ, ◌<◌, Bool, true, cond, not, ltb, List, [], length, get_or, set, Some, None, vec_items, sym, ap, ◌∙◌, arith}
use Rattle.std.specs.List.{remove as without}
use Rattle.std.proofs.lemmas.Bool.{lt-ltb, not-false}
use Rattle.catalogue.specs.declared.row.Row.{Row}
use Rattle.catalogue.specs.Refusals.{first, unless_refused}
use Rattle.sequencing.specs.Modes.{tables}
use Rattle.sequencing.specs.Sequencer.{counts_of}
use Rattle.versioning.specs.Words.{advance, next, waits}
use Rattle.versioning.specs.Machine.{State, Replica, Transaction, finished, find, remove, replace, replica, version, kept_if_refused, rows_after, version_after, all_executed, step_checks, stepping}
use Rattle.versioning.proofs.Checks.{all_passed}
use Rattle.cluster.specs.declared.cluster.Cluster.{Cluster}
use Rattle.cluster.specs.declared.transaction.Transaction.{Transaction as Held}
use Rattle.cluster.specs.Transactions.{transaction_of, transactions_of, executed_after, may_execute, may_execute_reply, StandsAt}
use Rattle.cluster.specs.View.{state_of, stepped_at, StepsAt, StepRefused}
use Rattle.cluster.proofs.Answered.{accepted, refused}
use Rattle.cluster.proofs.Paired.{paired_at, paired_length}
use Rattle.cluster.proofs.Standing.{many, shown_at}

-- a step by number and one by place
module _ (s : State) (k i j : ℕ) (at : StandsAt k i s.unfinished) where
  abbrev later : Transaction → List Transaction → List Transaction → State
  later x gone kept =
      record {
        counts = s.counts;
        replicas = set s.replicas j (record { rows = rows_after (next x.course j) (x.replaced j) (replica s j).rows; version = tables (λ t. version_after x.course j t (version s j t)) });
        unfinished = cond (all_executed (length s.replicas) (advance j x.course)) gone kept;
      }

  pub stepping_is : stepping s k j ≡ stepped_at s i j
  stepping_is =
      ap (λ (x : Transaction). later x (remove k s.unfinished) (replace k (executed_after x j (replica s j).rows) s.unfinished)) at.found
      ∙ ap (λ (gone : List Transaction). later (get_or s.unfinished i finished) gone (replace k (executed_after (get_or s.unfinished i finished) j (replica s j).rows) s.unfinished)) at.removed
      ∙ ap (later (get_or s.unfinished i finished) (without s.unfinished i)) (at.replaced (executed_after (get_or s.unfinished i finished) j (replica s j).rows))

-- at a replica that is there the checks of a transaction that stands at i are its own
module _ {R : Type 0} (catalogues : R → List (List Row)) (c : Cluster R) (k j i : ℕ) (x : Held) (there : j < length (catalogues c.replicas)) (begun : k < (counts_of c.sequencer).begun) (at : StandsAt k i (transactions_of (vec_items c.unfinished))) (is : x ≡ get_or (vec_items c.unfinished) i x) where
  abbrev s : State
  s = state_of catalogues c

  abbrev u : Transaction
  u = transaction_of x

  abbrev own : ℕ
  own = first (may_execute u j (get_or c.versions j []))

  shown : get_or s.unfinished i finished ≡ u
  shown = shown_at (vec_items c.unfinished) i x (omega (arith, at.within, many (vec_items c.unfinished))) is

  abbrev checked : Bool → Bool → ℕ
  checked there begun = cond (not there) 15 (cond (not begun) 6 (first (may_execute (find k s.unfinished) j (replica s j).version)))

  own_checks : first (step_checks s k j) ≡ own
  own_checks =
      ap (λ n. checked (ltb j n) (ltb k s.counts.begun)) (paired_length (catalogues c.replicas) c.versions)
      ∙ ap (λ (b : Bool). checked b (ltb k s.counts.begun)) (lt-ltb j (length (catalogues c.replicas)) there)
      ∙ ap (checked true) (lt-ltb k s.counts.begun begun)
      ∙ ap (λ (y : Transaction). first (may_execute y j (replica s j).version)) (at.found ∙ shown)
      ∙ ap (λ (r : Replica). first (may_execute u j r.version)) (paired_at (catalogues c.replicas) c.versions j there)

  pub step_refused : (m : ℕ) → (m, None) ≡ may_execute_reply u j (get_or c.versions j []) → StepRefused s k j m
  step_refused m e =
      record {
        answer = ap (λ a. unless_refused a tt) own_checks ∙ sym e;
        after = ap (λ a. kept_if_refused a s (stepping s k j)) own_checks ∙ ap (λ (b : Bool). cond b (stepping s k j) s) (refused own tt m e).1;
      }

  pub steps_at : (0, Some tt) ≡ may_execute_reply u j (get_or c.versions j []) → StepsAt catalogues c k j i
  steps_at e =
      let none = (accepted own tt tt e).0 in
      record {
        within = omega (arith, at.within, many (vec_items c.unfinished), c.unfinished.ok.0);
        there = there;
        waiting = ap (λ (y : Transaction). waits y.course j) shown ∙ not-false (waits u.course j) (all_passed (may_execute u j (get_or c.versions j [])) none).0;
        answer = ap (λ a. unless_refused a tt) (own_checks ∙ none);
        after = ap (λ a. kept_if_refused a s (stepping s k j)) (own_checks ∙ none) ∙ stepping_is s k i j at;
      }
