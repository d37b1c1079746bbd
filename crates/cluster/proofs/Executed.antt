-- The next operation of a transaction is executed at a replica: what becomes of the rows it replaced, its cost and how far each replica is.
use Rattle.std.proofs.Common.{◌≡◌, ℕ, zero, suc, ◌+◌, ◌-◌, ◌<◌, ◌≤◌, Bool, true, false, cond, eqb, List, [], ◌∷◌, ◌++◌, length, get_or, take, set, sum_by, sym, refl, ap, ◌∙◌, subst, ap₂, add-one, arith}
use mathlib.Core.Path.{fun_ext}
use Rattle.std.proofs.lemmas.List.{get_or-set_same, get_or-set_other, set-set, length-set, get_or_append_left, get_or_push, length_push}
use Rattle.std.proofs.lemmas.List.Sums.{sum_by_more}
use Rattle.std.proofs.lemmas.Bool.{eqb-true, eqb-false}
use Rattle.catalogue.specs.declared.row.Row.{Row}
use Rattle.catalogue.specs.Rows.{blank}
use Rattle.catalogue.specs.Replicated.{catalogue_of}
use Rattle.versioning.specs.declared.operation.Operation.{Operation}
use Rattle.versioning.specs.Words.{updated, next}
use Rattle.versioning.specs.Machine.{undo, cost}
use Rattle.cluster.specs.declared.transaction.Transaction.{Transaction}
use Rattle.cluster.specs.declared.transaction.progress.Progress.{Progress}
use Rattle.cluster.specs.Orderly.{progress_at, executed_at, Spent}
use Rattle.cluster.specs.Transactions.{replaced_by, replaced_rows, course_of, transaction_of}

-- a list with one element changed, as a function
updated_is : {A : Type 0} (xs : List A) (j : ℕ) (v d : A) → j < length xs → (i : ℕ) → get_or (set xs j v) i d ≡ updated j v (λ k. get_or xs k d) i
updated_is xs j v d l i = go (eqb i j) refl
  where
    go : (b : Bool) → eqb i j ≡ b → get_or (set xs j v) i d ≡ cond b v (get_or xs i d)
    go true e = ap (λ k. get_or (set xs j v) k d) (eqb-true i j e) ∙ get_or-set_same xs j v d l
    go false e = get_or-set_other xs j i v d (eqb-false i j e)

-- the rows replaced, with one more
module _ (ops : List Operation) (olds : List Row) (old : Row) where
  replaced_kept : (n : ℕ) → n ≤ length olds → replaced_rows ops (olds ++ (old ∷ [])) n ≡ replaced_rows ops olds n
  replaced_kept zero h = refl
  replaced_kept (suc n) h =
      ap₂ (replaced_by (get_or ops n Operation.Commit)) (get_or_append_left olds (old ∷ []) blank n (omega arith)) (replaced_kept n (omega arith))

  replaced_more : replaced_rows ops (olds ++ (old ∷ [])) (length (olds ++ (old ∷ []))) ≡ replaced_by (get_or ops (length olds) Operation.Commit) old (replaced_rows ops olds (length olds))
  replaced_more =
      ap (replaced_rows ops (olds ++ (old ∷ []))) (length_push olds old ∙ add-one (length olds))
      ∙ ap₂ (replaced_by (get_or ops (length olds) Operation.Commit)) (get_or_push olds old blank (length olds) refl) (replaced_kept (length olds) (omega arith))

-- how far each replica is, when the one at j has executed one operation more
module _ (x : Transaction) (j : ℕ) (old : Row) (p : Progress) (there : j < length x.progress) (is : p.replaced.items ≡ (progress_at x.progress j).replaced.items ++ (old ∷ [])) where
  abbrev now : List Progress
  now = set x.progress j p

  progress_is : (i : ℕ) → progress_at now i ≡ updated j p (progress_at x.progress) i
  progress_is i = updated_is x.progress j p (record { replaced = record { items = []; spare = [] }; cost = 0 }) there i

  -- what holds of the others, and of the one at j as it is now
  pub each_now : (P : Progress → Type 0) → P p → ((i : ℕ) → P (progress_at x.progress i)) → (i : ℕ) → P (progress_at now i)
  each_now P new all i = subst P (sym (progress_is i)) (go (eqb i j))
    where
      go : (b : Bool) → P (cond b p (progress_at x.progress i))
      go true = new
      go false = all i

  pub executed_now : executed_at now ≡ updated j (executed_at x.progress j + 1) (executed_at x.progress)
  executed_now =
      fun_ext (λ i. ap (λ (q : Progress). length q.replaced.items) (progress_is i) ∙ go (eqb i j) (progress_at x.progress i))
    where
      go : (b : Bool) (q : Progress) → length (cond b p q).replaced.items ≡ cond b (executed_at x.progress j + 1) (length q.replaced.items)
      go true q = ap length is ∙ length_push (progress_at x.progress j).replaced.items old
      go false q = refl

  pub replaced_now : (λ i. replaced_rows x.asked.items (progress_at now i).replaced.items (executed_at now i)) ≡ updated j (replaced_by (next (course_of x) j) old ((transaction_of x).replaced j)) (transaction_of x).replaced
  replaced_now =
      fun_ext (λ i. ap (λ (q : Progress). replaced_rows x.asked.items q.replaced.items (length q.replaced.items)) (progress_is i) ∙ go (eqb i j) (progress_at x.progress i))
    where
      go : (b : Bool) (q : Progress) → replaced_rows x.asked.items (cond b p q).replaced.items (length (cond b p q).replaced.items) ≡ cond b (replaced_by (next (course_of x) j) old ((transaction_of x).replaced j)) (replaced_rows x.asked.items q.replaced.items (length q.replaced.items))
      go true q =
          ap (λ (olds : List Row). replaced_rows x.asked.items olds (length olds)) is
          ∙ replaced_more x.asked.items (progress_at x.progress j).replaced.items old
      go false q = refl

  -- the transaction's facts of them
  pub within_now : executed_at x.progress j < length x.asked.items → (i : ℕ) → executed_at now i ≤ length x.asked.items
  within_now l =
      each_now (λ q. length q.replaced.items ≤ length x.asked.items) (omega (arith, ap length is, length_push (progress_at x.progress j).replaced.items old)) x.within

  pub spent_now : executed_at x.progress j < length x.asked.items → p.cost ≡ (progress_at x.progress j).cost + cost (next (course_of x) j) → Spent now x.asked.items
  spent_now l e =
      let n = executed_at x.progress j in
      let more : length p.replaced.items ≡ n + 1 = ap length is ∙ length_push (progress_at x.progress j).replaced.items old in
      each_now (λ q. q.cost ≡ sum_by cost (take (length q.replaced.items) x.asked.items))
      (e ∙ ap (λ s. s + cost (next (course_of x) j)) (x.spent j) ∙ sym (sum_by_more cost x.asked.items n Operation.Commit l) ∙ ap (λ k. sum_by cost (take k x.asked.items)) (sym more)) x.spent

-- the catalogues cs with rows put back at j
abbrev pub undone : List (List Row) → ℕ → List (ℕ × Row) → List (List Row)
undone cs j kept = set cs j (undo kept (catalogue_of cs j))

-- undoing one, then the others
undo_more : (op : Operation) (old : Row) (rest : List (ℕ × Row)) (rows : List Row) → undo (replaced_by op old rest) rows ≡ undo rest (undo (replaced_by op old []) rows)
undo_more (Operation.Write t r v c) old rest rows = refl
undo_more (Operation.Release t) old rest rows = refl
undo_more Operation.Commit old rest rows = refl
undo_more Operation.Abort old rest rows = refl

module _ (cs : List (List Row)) (j : ℕ) (ops : List Operation) (olds : List Row) where
  -- the one at n is undone, so that those before it are left
  abbrev one_undone : ℕ → List (List Row)
  one_undone n = undone cs j (replaced_by (get_or ops n Operation.Commit) (get_or olds n blank) [])

  undo_turn : (n : ℕ) → j < length cs → undone (one_undone n) j (replaced_rows ops olds n) ≡ undone cs j (replaced_rows ops olds (suc n))
  undo_turn n l =
      let put : List Row = undo (replaced_by (get_or ops n Operation.Commit) (get_or olds n blank) []) (catalogue_of cs j) in
      set-set cs j put (undo (replaced_rows ops olds n) (catalogue_of (set cs j put) j))
      ∙ ap (λ r. set cs j (undo (replaced_rows ops olds n) r)) (get_or-set_same cs j put [] l)
      ∙ ap (set cs j) (sym (undo_more (get_or ops n Operation.Commit) (get_or olds n blank) (replaced_rows ops olds n) (catalogue_of cs j)))

  pub undo_step : (executed turn : ℕ) (ds : List (List Row)) → turn < executed → j < length cs → ds ≡ one_undone (executed - 1 - turn) → (length ds ≡ length cs) × (undone ds j (replaced_rows ops olds (executed - (turn + 1))) ≡ undone cs j (replaced_rows ops olds (executed - turn)))
  undo_step executed turn ds h l e =
      let n : ℕ = executed - 1 - turn in
      let before : executed - (turn + 1) ≡ n = omega arith in
      let with_it : suc n ≡ executed - turn = omega arith in
      let put : List Row = undo (replaced_by (get_or ops n Operation.Commit) (get_or olds n blank) []) (catalogue_of cs j) in (
        ap length e ∙ length-set cs j put,
        ap₂ (λ (es : List (List Row)) (k : ℕ). undone es j (replaced_rows ops olds k)) e before
            ∙ undo_turn n l
            ∙ ap (λ (k : ℕ). undone cs j (replaced_rows ops olds k)) with_it,
      )
