-- The choice of the least loaded.
use Rattle.std.proofs.Common.{◌≡◌, ℕ, zero, suc, ◌<◌, ◌≤◌, Bool, true, false, cond, not, ◌&&◌, eqb, ltb, ◌↔◌, [], ◌∷◌, length, is_some, Some, None, Option, unwrap_or, sym, refl, ap, ◌∙◌, subst, true≢false, arith}
use mathlib.Core.Bool.{false≢true}
use Rattle.std.proofs.lemmas.Bool.{eqb-true, eqb-false, ltb-true, ltb-false, not-false}
use Rattle.catalogue.specs.declared.row.Row.{Row}
use Rattle.catalogue.specs.declared.refusal.Refusal.{Refusal}
use Rattle.catalogue.specs.Refusals.{first}
use Rattle.versioning.specs.Machine.{State, better, least, load, qualifies, chosen, reading_checks, read_checks, found, read_reply, LeastLoaded, AlwaysReadsLeastLoaded}
use Rattle.versioning.proofs.Checks.{all_passed, first_behind}

module _ (fits : ℕ → Bool) (load : ℕ → ℕ) where
  -- what stands of the choice among the numbers below n
  abbrev Right : ℕ → Option ℕ → Type 0
  Right n None = (i : ℕ) → i < n → fits i ≡ false
  Right n (Some j) = LeastLoaded fits load n j

  -- every number below n, and n itself
  more : (P : ℕ → Type 0) (n : ℕ) → ((i : ℕ) → i < n → P i) → P n → (i : ℕ) → i < suc n → P i
  more P n below here i h = go (eqb i n) refl
    where
      go : (b : Bool) → eqb i n ≡ b → P i
      go true e = subst P (sym (eqb-true i n e)) here
      go false e = below i (omega (arith, eqb-false i n e))

  better_right : (n : ℕ) (best : Option ℕ) → Right n best → Right (suc n) (better fits load n best)
  better_right n None p = go (fits n) refl
    where
      go : (b : Bool) → fits n ≡ b → Right (suc n) (cond b (Some n) None)
      go true e =
          record {
            within = omega arith;
            fit = e;
            least = more (λ k. fits k ≡ true → load n ≤ load k) n (λ k l g. absurd (true≢false (sym g ∙ p k l))) (λ g. omega arith);
            lowest = more (λ k. fits k ≡ true → load k ≡ load n → n ≤ k) n (λ k l g. absurd (true≢false (sym g ∙ p k l))) (λ g q. omega arith);
          }
      go false e = more (λ k. fits k ≡ false) n p e
  better_right n (Some j) p = go (fits n) refl (ltb (load n) (load j)) refl
    where
      kept : (fits n ≡ true → load j ≤ load n) → Right (suc n) (Some j)
      kept f =
          record {
            within = omega (arith, p.within);
            fit = p.fit;
            least = more (λ k. fits k ≡ true → load j ≤ load k) n p.least f;
            lowest = more (λ k. fits k ≡ true → load k ≡ load j → j ≤ k) n p.lowest (λ g q. omega (arith, p.within));
          }

      go : (b : Bool) → fits n ≡ b → (c : Bool) → ltb (load n) (load j) ≡ c → Right (suc n) (cond (b && c) (Some n) (Some j))
      go true e true q =
          let less = ltb-true (load n) (load j) q in
          record {
            within = omega arith;
            fit = e;
            least = more (λ k. fits k ≡ true → load n ≤ load k) n (λ k l g. omega (arith, p.least k l g)) (λ g. omega arith);
            lowest = more (λ k. fits k ≡ true → load k ≡ load n → n ≤ k) n (λ k l g s. absurd (differ (load k) (load n) (load j) s less (p.least k l g))) (λ g s. omega arith);
          }
        where
          differ : (a b c : ℕ) → a ≡ b → b < c → c ≤ a → ⊥
          differ a b c s l m = omega arith
      go true e false q = kept (λ g. ltb-false (load n) (load j) q)
      go false e c q = kept (λ g. absurd (true≢false (sym g ∙ e)))

  pub least_right : (n : ℕ) → Right n (least fits load n)
  least_right zero = λ i h. absurd (none i h)
    where
      none : (i : ℕ) → i < 0 → ⊥
      none i h = omega arith
  least_right (suc n) = better_right n (least fits load n) (least_right n)

-- the replica chosen, where one is
pub chosen_right : (s : State) (k t : ℕ) → is_some (chosen s k t) ≡ true → LeastLoaded (qualifies s k t) (load s) (length s.replicas) (unwrap_or (chosen s k t) 0)
chosen_right s k t h = go (chosen s k t) (least_right (qualifies s k t) (load s) (length s.replicas)) h
  where
    go : (x : Option ℕ) → Right (qualifies s k t) (load s) (length s.replicas) x → is_some x ≡ true → LeastLoaded (qualifies s k t) (load s) (length s.replicas) (unwrap_or x 0)
    go None p h = absurd (false≢true h)
    go (Some j) p h = p

module _ (s : State) (k t r : ℕ) where
  -- every check of the read passes, the last one too
  pub one_chosen : first (read_checks s k t r) ≡ 0 → is_some (chosen s k t) ≡ true
  one_chosen h = not-false (is_some (chosen s k t)) (all_passed (read_checks s k t r) h).1.1.1.1.1.1.0

  answers : (x : Row) (j : ℕ) → read_reply s k t r ≡ (0, Some (x, j)) → LeastLoaded (qualifies s k t) (load s) (length s.replicas) j × (x ≡ found s j t r)
  answers x j e =
      let here : Row × ℕ = (found s (unwrap_or (chosen s k t) 0) t r, unwrap_or (chosen s k t) 0) in
      let passed : first (read_checks s k t r) ≡ 0 = ap (λ a. a.0) e in
      let told : Some here ≡ Some (x, j) = ap (λ m. cond (eqb m 0) (Some here) None) (sym passed) ∙ ap (λ a. a.1) e in
      let same : here ≡ (x, j) = cc in
      let at : unwrap_or (chosen s k t) 0 ≡ j = ap (λ a. a.1) same in
      (subst (LeastLoaded (qualifies s k t) (load s) (length s.replicas)) at (chosen_right s k t (one_chosen passed)), sym (ap (λ a. a.0) same) ∙ ap (λ i. found s i t r) at)

  refuses : first (reading_checks s k t r) ≡ 0 → ((read_reply s k t r).0 ≡ 13) ↔ ((j : ℕ) → j < length s.replicas → qualifies s k t j ≡ false)
  refuses h =
      go (chosen s k t) (least_right (qualifies s k t) (load s) (length s.replicas)) (first_behind (reading_checks s k t r) ((not (is_some (chosen s k t)), Refusal.NoReplicaQualifies) ∷ []) (all_passed (reading_checks s k t r) h))
    where
      differ : ◌≡◌ {A = ℕ} 0 13 → ⊥
      differ z = omega arith

      go : (x : Option ℕ) → Right (qualifies s k t) (load s) (length s.replicas) x → first (read_checks s k t r) ≡ cond (not (is_some x)) 13 0 → (first (read_checks s k t r) ≡ 13) ↔ ((j : ℕ) → j < length s.replicas → qualifies s k t j ≡ false)
      go None p e = (λ q. p, λ q. e)
      go (Some j) p e = (λ q. absurd (differ (sym e ∙ q)), λ f. absurd (true≢false (sym p.fit ∙ f j p.within)))

pub always_reads_least_loaded : AlwaysReadsLeastLoaded
always_reads_least_loaded s k t r = record { answers = answers s k t r; refuses = refuses s k t r }
