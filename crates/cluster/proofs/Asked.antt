-- One operation more is asked: it may follow those before, there is room for it, and nothing else changes.
use Rattle.std.proofs.Common.{◌≡◌, ℕ, zero, suc, ◌+◌, ◌<◌, ◌≤◌, Bool, true, false, cond, not, ◌&&◌, ◌||◌, eqb, ltb, ◌⊎◌, List, [], ◌∷◌, ◌++◌, length, get_or, take, sym, refl, ap, ◌∙◌, subst, ap₂, inl, inr, not-suc-le-zero, add-one, arith}
use mathlib.Core.Path.{fun_ext}
use Rattle.std.proofs.lemmas.List.{take-append-le, take_at, get_or_append_left, get_or_push, length_push}
use Rattle.std.proofs.lemmas.List.Sums.{sum_by_push}
use Rattle.std.proofs.lemmas.Bool.{and_parts, and_from, or_parts, or_from, or_right, cases_lt, eq-eqb, not-true, not-false, not_from_false, ltb-true}
use Rattle.catalogue.specs.declared.row.Row.{Row}
use Rattle.catalogue.specs.Refusals.{first}
use Rattle.catalogue.specs.Rows.{blank}
use Rattle.sequencing.specs.declared.mode.Mode.{Mode}
use Rattle.sequencing.specs.Modes.{declares}
use Rattle.versioning.specs.declared.operation.Operation.{Operation}
use Rattle.versioning.specs.Words.{Course, ask, mode, writes, is_release, is_end, is_write, released, ended, lets_go, count_writes}
use Rattle.versioning.specs.Machine.{may_write, may_release, may_commit, may_abort}
use Rattle.versioning.proofs.Ops.{some_push}
use Rattle.versioning.proofs.Checks.{all_passed}
use Rattle.cluster.specs.declared.transaction.Transaction.{Transaction}
use Rattle.cluster.specs.Orderly.{mode_in, may_follow, orderly, bit, sum_below, tally, progress_at, executed_at}
use Rattle.cluster.specs.Transactions.{replaced_by, replaced_rows, course_of, transaction_of, with_course, may_ask, asked_after}

-- what no check refuses may follow what was asked, and is one of 16 writes at most
module _ (c : Course) where
  open_yet : (op : Operation) → first (may_ask c op) ≡ 0 → ended c.asked ≡ false
  open_yet (Operation.Write t r v k) h = (all_passed (may_write c t r k) h).0
  open_yet (Operation.Release t) h = (all_passed (may_release c t) h).0
  open_yet Operation.Commit h = (all_passed (may_commit c) h).0
  open_yet Operation.Abort h = (all_passed (may_abort c) h).0

  kept_yet : (t : ℕ) → released t c.asked ≡ false → ended c.asked ≡ false → not (lets_go t c.asked) ≡ true
  kept_yet t r e = not_from_false (lets_go t c.asked) (or_from (released t c.asked) (ended c.asked) r e)

  follows : (op : Operation) → first (may_ask c op) ≡ 0 → may_follow c.declared c.asked op ≡ true
  follows (Operation.Write t r v k) h =
      let p = all_passed (may_write c t r k) h in
      let kept = kept_yet t p.1.1.1.1.1.0 p.0 in
      and_from (writes (mode c t)) (not (lets_go t c.asked) && (ltb t 8 && (ltb r 64 && ltb k 8))) (not-false (writes (mode c t)) p.1.1.1.1.0)
      (and_from (not (lets_go t c.asked)) (ltb t 8 && (ltb r 64 && ltb k 8)) kept
      (and_from (ltb t 8) (ltb r 64 && ltb k 8) (not-false (ltb t 8) p.1.0)
      (and_from (ltb r 64) (ltb k 8) (not-false (ltb r 64) p.1.1.0) (not-false (ltb k 8) p.1.1.1.0))))
  follows (Operation.Release t) h =
      let p = all_passed (may_release c t) h in
      let kept = kept_yet t p.1.1.1.0 p.0 in
      and_from (declares (mode c t)) (not (lets_go t c.asked) && ltb t 8) (not-false (declares (mode c t)) p.1.1.0)
      (and_from (not (lets_go t c.asked)) (ltb t 8) kept (not-false (ltb t 8) p.1.0))
  follows Operation.Commit h = not_from_false (ended c.asked) (open_yet Operation.Commit h)
  follows Operation.Abort h = not_from_false (ended c.asked) (open_yet Operation.Abort h)

  few_writes : (op : Operation) → first (may_ask c op) ≡ 0 → count_writes c.asked ≤ 16 → count_writes c.asked + bit (is_write op) ≤ 16
  few_writes (Operation.Write t r v k) h m =
      let p = all_passed (may_write c t r k) h in
      let l : count_writes c.asked < 16 = ltb-true (count_writes c.asked) 16 (not-false (ltb (count_writes c.asked) 16) p.1.1.1.1.1.1.0) in
      omega arith
  few_writes (Operation.Release t) h m = omega arith
  few_writes Operation.Commit h m = omega arith
  few_writes Operation.Abort h m = omega arith

  -- the phase after it
  ended_after : (op : Operation) (b : Bool) → first (may_ask c op) ≡ 0 → b ≡ is_end op → ended (c.asked ++ (op ∷ [])) ≡ b
  ended_after op b h e = some_push is_end c.asked op ∙ ap (λ a. a || is_end op) (open_yet op h) ∙ sym e

-- how many there are at most
bit_cond : (b : Bool) → cond b 1 0 ≡ bit b
bit_cond true = refl
bit_cond false = refl

count_push : (ops : List Operation) (op : Operation) → count_writes (ops ++ (op ∷ [])) ≡ count_writes ops + bit (is_write op)
count_push ops op = sum_by_push (λ x. cond (is_write x) 1 0) ops op ∙ ap (λ n. count_writes ops + n) (bit_cond (is_write op))

bit_one : (b : Bool) → bit b ≤ 1
bit_one true = omega arith
bit_one false = omega arith

bit_grows : (a b : Bool) → bit a ≤ bit (a || b)
bit_grows true b = omega arith
bit_grows false true = omega arith
bit_grows false false = omega arith

sum_mono : (n : ℕ) (f g : ℕ → ℕ) → ((t : ℕ) → f t ≤ g t) → sum_below n f ≤ sum_below n g
sum_mono zero f g h = omega arith
sum_mono (suc n) f g h = omega (arith, h n, sum_mono n f g h)

sum_less : (n : ℕ) (f g : ℕ → ℕ) (u : ℕ) → u < n → f u < g u → ((t : ℕ) → f t ≤ g t) → sum_below n f < sum_below n g
sum_less zero f g u l s h = absurd (not-suc-le-zero l)
sum_less (suc n) f g u l s h = go (cases_lt u n) (λ q. sum_less n f g u q s h)
  where
    go : (u < n) ⊎ (n ≤ u) → (u < n → sum_below n f < sum_below n g) → f n + sum_below n f < g n + sum_below n g
    go (inl q) k = omega (arith, k q, h n)
    go (inr q) k =
        let e : u ≡ n = omega arith in
        omega (arith, subst (λ (i : ℕ). f i < g i) e s, sum_mono n f g h)

module _ (ops : List Operation) where
  released_most : sum_below 8 (λ t. bit (released t ops)) ≤ 8
  released_most = sum_mono 8 (λ t. bit (released t ops)) (λ t. 1) (λ t. bit_one (released t ops))

  released_short : (u : ℕ) → u < 8 → released u ops ≡ false → sum_below 8 (λ t. bit (released t ops)) < 8
  released_short u l e =
      sum_less 8 (λ t. bit (released t ops)) (λ t. 1) u l (omega (arith, ap bit e)) (λ t. bit_one (released t ops))

  module _ (op : Operation) where
    released_grows : (t : ℕ) → bit (released t ops) ≤ bit (released t (ops ++ (op ∷ [])))
    released_grows t =
        subst (λ b. bit (released t ops) ≤ bit b) (sym (some_push (is_release t) ops op)) (bit_grows (released t ops) (is_release t op))

    ended_grows : bit (ended ops) ≤ bit (ended (ops ++ (op ∷ [])))
    ended_grows = subst (λ b. bit (ended ops) ≤ bit b) (sym (some_push is_end ops op)) (bit_grows (ended ops) (is_end op))

    sums_grow : sum_below 8 (λ t. bit (released t ops)) ≤ sum_below 8 (λ t. bit (released t (ops ++ (op ∷ []))))
    sums_grow = sum_mono 8 (λ t. bit (released t ops)) (λ t. bit (released t (ops ++ (op ∷ [])))) released_grows

-- a transaction asked 25 operations at most
pub most_asked : (x : Transaction) → length x.asked.items ≤ 25
most_asked x = omega (arith, x.tallied, x.modest, released_most x.asked.items, bit_one (ended x.asked.items))

-- one more adds one to the tally, which was 24 at most
abbrev Fitting : List Operation → Operation → Type 0
Fitting ops op = (tally ops + 1 ≤ tally (ops ++ (op ∷ []))) × (count_writes ops + bit (is_write op) ≤ 16 → tally ops ≤ 24)

end_fits : (ops : List Operation) (op : Operation) → is_end op ≡ true → not (ended ops) ≡ true → Fitting ops op
end_fits ops op i h =
    let e : ended ops ≡ false = not-true (ended ops) h in
    let after : ended (ops ++ (op ∷ [])) ≡ true = some_push is_end ops op ∙ or_right (ended ops) (is_end op) i in
    (omega (arith, ap bit e, ap bit after, sums_grow ops op, count_push ops op), λ m. omega (arith, ap bit e, released_most ops))

fits : (modes : List Mode) (ops : List Operation) (op : Operation) → may_follow modes ops op ≡ true → Fitting ops op
fits modes ops (Operation.Write t r v c) a =
    let p = and_parts (writes (mode_in modes t)) (not (lets_go t ops) && (ltb t 8 && (ltb r 64 && ltb c 8))) a in
    let q = or_parts (released t ops) (ended ops) (not-true (lets_go t ops) (and_parts (not (lets_go t ops)) (ltb t 8 && (ltb r 64 && ltb c 8)) p.1).0) in
    (omega (arith, sums_grow ops (Operation.Write t r v c), ended_grows ops (Operation.Write t r v c), count_push ops (Operation.Write t r v c)), λ m. omega (arith, ap bit q.1, released_most ops))
fits modes ops (Operation.Release t) a =
    let p = and_parts (not (lets_go t ops)) (ltb t 8) (and_parts (declares (mode_in modes t)) (not (lets_go t ops) && ltb t 8) a).1 in
    let q = or_parts (released t ops) (ended ops) (not-true (lets_go t ops) p.0) in
    let after : released t (ops ++ (Operation.Release t ∷ [])) ≡ true = some_push (is_release t) ops (Operation.Release t) ∙ or_right (released t ops) (eqb t t) (eq-eqb t t refl) in
    let l : t < 8 = ltb-true t 8 p.1 in (
      omega (arith, sum_less 8 (λ u. bit (released u ops)) (λ u. bit (released u (ops ++ (Operation.Release t ∷ [])))) t l (omega (arith, ap bit q.0, ap bit after)) (released_grows ops (Operation.Release t)), ended_grows ops (Operation.Release t), count_push ops (Operation.Release t)),
      λ m. omega (arith, ap bit q.1, released_short ops t l q.0),
    )
fits modes ops Operation.Commit a = end_fits ops Operation.Commit refl a
fits modes ops Operation.Abort a = end_fits ops Operation.Abort refl a

-- the list with one more
orderly_kept : (modes : List Mode) (ops : List Operation) (m : ℕ) (op : Operation) → m ≤ length ops → orderly modes (ops ++ (op ∷ [])) m ≡ orderly modes ops m
orderly_kept modes ops zero op h = refl
orderly_kept modes ops (suc m) op h =
    ap₂ ◌&&◌ (orderly_kept modes ops m op (omega arith)) (ap₂ (may_follow modes) (take-append-le m ops (op ∷ []) (omega arith)) (get_or_append_left ops (op ∷ []) Operation.Commit m (omega arith)))

orderly_more : (modes : List Mode) (ops : List Operation) (op : Operation) → orderly modes ops (length ops) ≡ true → may_follow modes ops op ≡ true → orderly modes (ops ++ (op ∷ [])) (length ops + 1) ≡ true
orderly_more modes ops op o a =
    let n = length ops in
    ap (orderly modes (ops ++ (op ∷ []))) (add-one n)
    ∙ and_from (orderly modes (ops ++ (op ∷ [])) n) (may_follow modes (take n (ops ++ (op ∷ []))) (get_or (ops ++ (op ∷ [])) n Operation.Commit)) (orderly_kept modes ops n op (omega arith) ∙ o) (ap₂ (may_follow modes) (take_at ops (op ∷ []) n refl) (get_or_push ops op Operation.Commit n refl) ∙ a)

replaced_asked : (ops : List Operation) (olds : List Row) (n : ℕ) (op : Operation) → n ≤ length ops → replaced_rows (ops ++ (op ∷ [])) olds n ≡ replaced_rows ops olds n
replaced_asked ops olds zero op h = refl
replaced_asked ops olds (suc n) op h =
    ap₂ (λ (o : Operation) (rest : List (ℕ × Row)). replaced_by o (get_or olds n blank) rest) (get_or_append_left ops (op ∷ []) Operation.Commit n (omega arith)) (replaced_asked ops olds n op (omega arith))

-- an operation that no check refuses: there is room for it, and the transaction with it is the machine's
module _ (x : Transaction) (op : Operation) (accepted : first (may_ask (course_of x) op) ≡ 0) where
  fitting : Fitting x.asked.items op
  fitting = fits x.declared x.asked.items op (follows (course_of x) op accepted)

  pub room : length x.asked.items < 25
  room = omega (arith, fitting.1 (few_writes (course_of x) op accepted x.modest), x.tallied)

  pub phased_now : (b : Bool) → b ≡ is_end op → ended (x.asked.items ++ (op ∷ [])) ≡ b
  phased_now b e = ended_after (course_of x) op b accepted e

  pub orderly_now : orderly x.declared (x.asked.items ++ (op ∷ [])) (length (x.asked.items ++ (op ∷ []))) ≡ true
  orderly_now =
      ap (orderly x.declared (x.asked.items ++ (op ∷ []))) (length_push x.asked.items op) ∙ orderly_more x.declared x.asked.items op x.allowed (follows (course_of x) op accepted)

  pub modest_now : count_writes (x.asked.items ++ (op ∷ [])) ≤ 16
  modest_now = omega (arith, count_push x.asked.items op, few_writes (course_of x) op accepted x.modest)

  pub tallied_now : length (x.asked.items ++ (op ∷ [])) ≤ tally (x.asked.items ++ (op ∷ []))
  tallied_now = omega (arith, length_push x.asked.items op, fitting.0, x.tallied)

  pub after_now : record { number = x.number; assigned = x.assigned; course = ask op (course_of x); replaced = λ j. replaced_rows (x.asked.items ++ (op ∷ [])) (progress_at x.progress j).replaced.items (executed_at x.progress j) } ≡ asked_after (transaction_of x) op
  after_now =
      ap (λ (replaced : ℕ → List (ℕ × Row)). record { number = x.number; assigned = x.assigned; course = ask op (course_of x); replaced = replaced }) (fun_ext (λ (j : ℕ). replaced_asked x.asked.items (progress_at x.progress j).replaced.items (executed_at x.progress j) op (x.within j)))
      ∙ ap (λ n. cond (eqb n 0) (with_course (transaction_of x) (ask op (course_of x))) (transaction_of x)) (sym accepted)
