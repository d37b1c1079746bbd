-- What an answer tells of the refusal's number.
use Rattle.std.proofs.Common.{◌≡◌, ℕ, Bool, true, false, cond, eqb, Some, None, Option, sym, refl, ap, ◌∙◌}
use Rattle.catalogue.specs.Refusals.{unless_refused}

module _ {T : Type 0} (n : ℕ) (x : T) where
  -- an accepted answer: no check refused, and it is the value
  pub accepted : (y : T) → (0, Some y) ≡ unless_refused n x → (n ≡ 0) × (y ≡ x)
  accepted y e = (sym (ap (λ (a : ℕ × Option T). a.0) e), go (eqb n 0) (ap (λ (a : ℕ × Option T). a.1) e))
    where
      go : (b : Bool) → Some y ≡ cond b (Some x) None → y ≡ x
      go true same = cc
      go false apart = cc

  -- a refused one: its number is that of the check, which is none of the accepted
  pub refused : (m : ℕ) → (m, None) ≡ unless_refused n x → (n ≡ m) × (eqb n 0 ≡ false)
  refused m e = (sym (ap (λ (a : ℕ × Option T). a.0) e), go (eqb n 0) (ap (λ (a : ℕ × Option T). a.1) e))
    where
      go : (b : Bool) → None ≡ cond b (Some x) None → b ≡ false
      go true apart = cc
      go false same = refl

-- another answer that the same check refuses
pub refused_too : {T U : Type 0} (n m : ℕ) (x : T) (y : U) → (m, None) ≡ unless_refused n x → (m, None) ≡ unless_refused n y
refused_too {T} {U} n m x y e =
    let r = refused n x m e in
    ap (λ k. (k, None)) (sym r.0) ∙ ap (λ (b : Bool). (n, cond b (Some y) None)) (sym r.1)
