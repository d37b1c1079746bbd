-- Rows copied one after the other, and replicas one after the other.
use Rattle.std.proofs.Common.{◌≡◌, ℕ, zero, suc, ◌+◌, ◌/◌, ◌%◌, ◌<◌, ◌≤◌, ◌≢◌, Bool, cond, not, eqb, List, [], ◌∷◌, ◌++◌, length, get_or, set, take, drop, replicate, Some, None, Option, sym, refl, ap, ◌∙◌, ap₂, ⊎_elim, add-one, arith}
use lib.ListN.{length-replicate}
use Rattle.std.proofs.ByRecursion.{All-get_or}
use Rattle.std.proofs.lemmas.List.{ext_get_or, get_or-set_same, get_or-set_other, get_or-replicate, set_past, set-set, set-get_or, take-append-drop}
use Rattle.std.proofs.lemmas.Bool.{cases_eq, cases_lt, lt-ltb, le-ltb}
use Rattle.catalogue.specs.declared.row.Row.{Row}
use Rattle.catalogue.specs.declared.refusal.Refusal.{Refusal}
use Rattle.catalogue.specs.Refusals.{number, first}
use Rattle.catalogue.specs.Rows.{blank, place, place_checks}
use Rattle.catalogue.specs.Replicated.{Whole, catalogue_of, replica_checks, replica_fetch_reply, replica_put_after}
use Rattle.catalogue.proofs.Placed.{passes}
use Rattle.copying.specs.Copied.{copied_row, copied_places}

-- the number that the checks of a call come to
module _ (cs : List (List Row)) (j t r : ℕ) where
  abbrev checked : Bool → ℕ
  checked there = cond (not there) 15 (first (place_checks t r))

  there_checked : j < length cs → first (replica_checks cs j t r) ≡ first (place_checks t r)
  there_checked there = ap checked (lt-ltb j (length cs) there)

  no_replica : length cs ≤ j → first (replica_checks cs j t r) ≡ 15
  no_replica none = ap checked (le-ltb j (length cs) none)

  -- a put replaces the row, also where there is no such replica
  put_any : (v : Row) → first (place_checks t r) ≡ 0 → replica_put_after cs j t r v ≡ set cs j (set (catalogue_of cs j) (place t r) v)
  put_any v ok =
      let new = set cs j (set (catalogue_of cs j) (place t r) v) in
      ⊎_elim
      (λ (there : j < length cs). ap (λ n. cond (eqb n 0) new cs) (there_checked there ∙ ok))
      (λ (none : length cs ≤ j). ap (λ n. cond (eqb n 0) new cs) (no_replica none) ∙ sym (set_past cs j (set (catalogue_of cs j) (place t r) v) none))
      (cases_lt j (length cs))

-- a catalogue that is there has 512 rows
full_at : (cs : List (List Row)) (j : ℕ) → Whole cs → j < length cs → length (catalogue_of cs j) ≡ 512
full_at cs j w l = All-get_or (λ (rows : List Row). length rows ≡ 512) cs j [] l w.full

-- what is fetched is put
pub copied_at : (cs : List (List Row)) (to p : ℕ) (v : Row) → (0, Some v) ≡ replica_fetch_reply cs 0 (p / 64) (p % 64) → replica_put_after cs to (p / 64) (p % 64) v ≡ copied_row cs to p
copied_at cs to p v told =
    let t = p / 64 in
    let r = p % 64 in
    let none_refuses : 0 ≡ first (replica_checks cs 0 t r) = ap (λ (x : ℕ × Option Row). x.0) told in
    let there : 0 < length cs = ⊎_elim (λ (h : 0 < length cs). h) (λ (h : length cs ≤ 0). absurd (omega (arith, no_replica cs 0 t r h))) (cases_lt 0 (length cs)) in
    let ok : first (place_checks t r) ≡ 0 = sym (there_checked cs 0 t r there) ∙ sym none_refuses in
    let same : place t r ≡ p = omega arith in
    let value : Some v ≡ Some (get_or (catalogue_of cs 0) (place t r) blank) =
    ap (λ (x : ℕ × Option Row). x.1) told ∙ ap (λ n. cond (eqb n 0) (Some (get_or (catalogue_of cs 0) (place t r) blank)) None) (sym none_refuses) in
    let row : v ≡ get_or (catalogue_of cs 0) (place t r) blank = cc in
    put_any cs to t r v ok ∙ ap₂ (λ (k : ℕ) (x : Row). set cs to (set (catalogue_of cs to) k x)) same (row ∙ ap (λ k. get_or (catalogue_of cs 0) k blank) same)

-- past the last place there is nothing to copy
past : (cs : List (List Row)) (to p : ℕ) → Whole cs → 512 ≤ p → copied_row cs to p ≡ cs
past cs to p w h =
    let row = get_or (catalogue_of cs 0) p blank in
    ⊎_elim
    (λ (there : to < length cs). ap (set cs to) (set_past (catalogue_of cs to) p row (omega (arith, full_at cs to w there))) ∙ set-get_or cs to [])
    (λ (none : length cs ≤ to). set_past cs to (set (catalogue_of cs to) p row) none)
    (cases_lt to (length cs))

pub refused_at : (cs : List (List Row)) (to p : ℕ) (e : Refusal) → Whole cs → (number e, None) ≡ replica_fetch_reply cs 0 (p / 64) (p % 64) → cs ≡ copied_row cs to p
refused_at cs to p e w told =
    let t = p / 64 in
    let r = p % 64 in
    ⊎_elim
    (λ (within : p < 512).
    let ok : first (replica_checks cs 0 t r) ≡ 0 = there_checked cs 0 t r (omega (arith, w.some)) ∙ passes t r (omega arith) (omega arith) in
    let value = get_or (catalogue_of cs 0) (place t r) blank in
    let none : None ≡ Some value = ap (λ (x : ℕ × Option Row). x.1) told ∙ ap (λ n. cond (eqb n 0) (Some value) None) ok in
    cc)
    (λ (h : 512 ≤ p). sym (past cs to p w h))
    (cases_lt p 512)

-- one place more
mixed : (xs ys : List Row) (n : ℕ) → length xs ≡ length ys → set (take n xs ++ drop n ys) n (get_or xs n blank) ≡ take (n + 1) xs ++ drop (n + 1) ys
mixed xs ys n e = go xs ys n e ∙ ap (λ k. take k xs ++ drop k ys) (sym (add-one n))
  where
    go : (xs ys : List Row) (n : ℕ) → length xs ≡ length ys → set (take n xs ++ drop n ys) n (get_or xs n blank) ≡ take (suc n) xs ++ drop (suc n) ys
    go [] [] zero e = refl
    go [] [] (suc n) e = refl
    go [] (y ∷ ys) n e = absurd (omega arith)
    go (x ∷ xs) [] n e = absurd (omega arith)
    go (x ∷ xs) (y ∷ ys) zero e = refl
    go (x ∷ xs) (y ∷ ys) (suc n) e = ap (λ (rows : List Row). x ∷ rows) (go xs ys n (omega arith))

pub copied_more : (cs : List (List Row)) (to n : ℕ) → Whole cs → copied_row (copied_places cs to n) to n ≡ copied_places cs to (n + 1)
copied_more cs to n w =
    let from = catalogue_of cs 0 in
    let own = catalogue_of cs to in
    let so_far = take n from ++ drop n own in
    let cs' = copied_places cs to n in
    let next = λ (to_rows from_rows : List Row). set cs' to (set to_rows n (get_or from_rows n blank)) in
    ⊎_elim
    (λ (there : to < length cs).
    let at_to : catalogue_of cs' to ≡ so_far = get_or-set_same cs to so_far [] there in
    let at_first : catalogue_of cs' 0 ≡ from =
    ⊎_elim
    (λ (e : 0 ≡ to). ap (catalogue_of cs') e ∙ at_to ∙ ap (λ k. take n from ++ drop n (catalogue_of cs k)) (sym e) ∙ take-append-drop n from)
    (λ (apart : 0 ≢ to). get_or-set_other cs to 0 so_far [] apart)
    (cases_eq 0 to) in
    ap₂ next at_to at_first
    ∙ set-set cs to so_far (set so_far n (get_or from n blank))
    ∙ ap (set cs to) (mixed from own n (full_at cs 0 w (omega arith) ∙ sym (full_at cs to w there))))
    (λ (none : length cs ≤ to).
    let same : cs' ≡ cs = set_past cs to so_far none in
    ap (λ (x : List (List Row)). copied_row x to n) same
    ∙ set_past cs to _ none
    ∙ sym (set_past cs to (take (n + 1) from ++ drop (n + 1) own) none))
    (cases_lt to (length cs))

-- so far the replicas before one have the rows of the first
pub record AlikeTo (before cs : List (List Row)) (to : ℕ) : Type 0 where
  pub size : length cs ≡ length before
  pub rows : (j : ℕ) → j < to → catalogue_of cs j ≡ catalogue_of before 0

pub alike_all : (before cs : List (List Row)) (to : ℕ) → length cs ≤ to → AlikeTo before cs to → cs ≡ replicate (length before) (catalogue_of before 0)
alike_all before cs to all so_far =
    ext_get_or [] cs (replicate (length before) (catalogue_of before 0)) (so_far.size ∙ sym (length-replicate (length before) (catalogue_of before 0)))
    (λ j l. so_far.rows j (omega arith) ∙ sym (get_or-replicate (length before) j (catalogue_of before 0) [] (omega (arith, so_far.size))))
