-- A transaction's operations: in which order they may be asked, and what they make of one row.
use Rattle.std.proofs.Common.{◌≡◌, ℕ, zero, suc, ◌+◌, ◌<◌, ◌≤◌, Bool, true, false, cond, ◌&&◌, ◌||◌, eqb, ◌⊎◌, List, [], ◌∷◌, ◌++◌, length, get_or, take, fold, sym, refl, ap, ◌∙◌, subst, inl, inr, add-zero, add-suc, arith, take-suc}
use mathlib.Core.Bool.{false≢true}
use Rattle.std.proofs.lemmas.List.Sums.{fold_push}
use Rattle.std.proofs.lemmas.List.{take-append-le, take_at, get_or_append_left, get_or_push, length_push, take-take, get_or-take, length-take-le}
use Rattle.std.proofs.lemmas.Bool.{eqb-true, cases_lt, or_parts, or_left, or_right}
use Rattle.catalogue.specs.declared.row.Row.{Row}
use Rattle.sequencing.specs.declared.mode.Mode.{Mode}
use Rattle.versioning.specs.declared.operation.Operation.{Operation}
use Rattle.sequencing.specs.Modes.{some, declares}
use Rattle.versioning.specs.Words.{writes, is_release, is_end, is_abort, is_write_at, released, ended, aborted, lets_go}
use Rattle.versioning.proofs.Tests.{or_false, or_assoc, or_swap, cond_same}

-- some, over a list
pub some_push : {A : Type 0} (p : A → Bool) (xs : List A) (x : A) → some p (xs ++ (x ∷ [])) ≡ (some p xs || p x)
some_push p [] x = or_false (p x)
some_push p (y ∷ ys) x = ap (λ b. p y || b) (some_push p ys x) ∙ or_assoc (p y) (some p ys) (p x)

pub some_at : {A : Type 0} (p : A → Bool) (xs : List A) (d : A) → some p xs ≡ true → (i : ℕ) × (i < length xs) × (p (get_or xs i d) ≡ true)
some_at p [] d h = absurd (false≢true h)
some_at p (x ∷ xs) d h = go (some_at p xs d) (p x) refl h
  where
    go : (some p xs ≡ true → (i : ℕ) × (i < length xs) × (p (get_or xs i d) ≡ true)) → (b : Bool) → p x ≡ b → (b || some p xs) ≡ true → (i : ℕ) × (i < suc (length xs)) × (p (get_or (x ∷ xs) i d) ≡ true)
    go f true e h = (0, omega arith, e)
    go f false e h = let r = f h in (suc r.0, omega (arith, r.1), r.2)

pub some_take : {A : Type 0} (p : A → Bool) (n : ℕ) (xs : List A) → some p (take n xs) ≡ true → some p xs ≡ true
some_take p zero xs h = absurd (false≢true h)
some_take p (suc n) [] h = h
some_take p (suc n) (x ∷ xs) h = go (some_take p n xs) (p x) h
  where
    go : (some p (take n xs) ≡ true → some p xs ≡ true) → (b : Bool) → (b || some p (take n xs)) ≡ true → (b || some p xs) ≡ true
    go f true h = refl
    go f false h = f h

module _ (m : ℕ → Mode) where
  -- op may be asked behind the operations before
  abbrev pub Allowed : List Operation → Operation → Type 0
  Allowed before (Operation.Write t r v c) = (writes (m t) ≡ true) × (lets_go t before ≡ false) × (t < 8) × (r < 64)
  Allowed before (Operation.Release t) = (declares (m t) ≡ true) × (lets_go t before ≡ false)
  Allowed before Operation.Commit = ended before ≡ false
  Allowed before Operation.Abort = (ended before ≡ false) × ((t : ℕ) → writes (m t) ≡ true → released t before ≡ false)

  abbrev pub Sound : List Operation → Type 0
  Sound ops = (i : ℕ) → i < length ops → Allowed (take i ops) (get_or ops i Operation.Commit)

  pub sound_push : (ops : List Operation) (op : Operation) → Sound ops → Allowed ops op → Sound (ops ++ (op ∷ []))
  sound_push ops op s a i h = go (cases_lt i (length ops))
    where
      go : (i < length ops) ⊎ (length ops ≤ i) → Allowed (take i (ops ++ (op ∷ []))) (get_or (ops ++ (op ∷ [])) i Operation.Commit)
      go (inl l) =
          let le : i ≤ length ops = omega arith in
          rw (take-append-le i ops (op ∷ []), get_or_append_left ops (op ∷ []) Operation.Commit i) (s i l)
      go (inr l) =
          let e : length ops ≡ i = omega (arith, length_push ops op) in
          rw (take_at ops (op ∷ []) i e, get_or_push ops op Operation.Commit i e) a

  pub sound_take : (ops : List Operation) (n : ℕ) → n ≤ length ops → Sound ops → Sound (take n ops)
  sound_take ops n h s i l =
      let lt : i < n = omega (arith, length-take-le n ops h) in
      let le : i ≤ n = omega arith in
      rw (take-take i n ops, get_or-take n ops i Operation.Commit) (s i (omega arith))

  wrote_writes : (before : List Operation) (op : Operation) (t : ℕ) → Allowed before op → is_write_at t op ≡ true → writes (m t) ≡ true
  wrote_writes before (Operation.Write u r v c) t a h = rw (eqb-true t u h) a.0
  wrote_writes before (Operation.Release u) t a h = absurd (false≢true h)
  wrote_writes before Operation.Commit t a h = absurd (false≢true h)
  wrote_writes before Operation.Abort t a h = absurd (false≢true h)

  -- a table that is not declared for writing is not written
  pub quiet : (ops : List Operation) (t : ℕ) → Sound ops → writes (m t) ≡ false → some (is_write_at t) ops ≡ false
  quiet ops t s h = go (some (is_write_at t) ops) refl
    where
      go : (b : Bool) → some (is_write_at t) ops ≡ b → b ≡ false
      go true e =
          let w = some_at (is_write_at t) ops Operation.Commit e in
          sym (wrote_writes (take w.0 ops) (get_or ops w.0 Operation.Commit) t (s w.0 w.1) w.2) ∙ h
      go false e = refl

-- the row r of the table t after an operation, and after several; and what the transaction leaves of it
abbrev pub put : ℕ → ℕ → Row → Operation → Row
put t r x (Operation.Write u q v c) = cond (eqb t u && eqb r q) v x
put t r x (Operation.Release u) = x
put t r x Operation.Commit = x
put t r x Operation.Abort = x

abbrev pub puts : ℕ → ℕ → List Operation → Row → Row
puts t r ops x = fold (put t r) x ops

abbrev pub leaves : ℕ → ℕ → List Operation → Row → Row
leaves t r ops x = cond (aborted ops) x (puts t r ops x)

put_other : (t r : ℕ) (x : Row) (op : Operation) → is_write_at t op ≡ false → put t r x op ≡ x
put_other t r x (Operation.Write u q v c) h = ap (λ b. cond (b && eqb r q) v x) h
put_other t r x (Operation.Release u) h = refl
put_other t r x Operation.Commit h = refl
put_other t r x Operation.Abort h = refl

pub puts_other : (t r : ℕ) (ops : List Operation) (x : Row) → some (is_write_at t) ops ≡ false → puts t r ops x ≡ x
puts_other t r [] x h = refl
puts_other t r (op ∷ ops) x h =
    let p = or_parts (is_write_at t op) (some (is_write_at t) ops) h in
    ap (puts t r ops) (put_other t r x op p.0) ∙ puts_other t r ops x p.1

pub leaves_other : (t r : ℕ) (ops : List Operation) (x : Row) → some (is_write_at t) ops ≡ false → leaves t r ops x ≡ x
leaves_other t r ops x h = ap (cond (aborted ops) x) (puts_other t r ops x h) ∙ cond_same (aborted ops) x

-- an operation that is no write at the table and no abort
pub leaves_push : (t r : ℕ) (ops : List Operation) (op : Operation) (x : Row) → is_write_at t op ≡ false → is_abort op ≡ false → leaves t r (ops ++ (op ∷ [])) x ≡ leaves t r ops x
leaves_push t r ops op x w a =
    let e : aborted (ops ++ (op ∷ [])) ≡ aborted ops = some_push is_abort ops op ∙ ap (λ b. aborted ops || b) a ∙ or_false (aborted ops) in
    let p : puts t r (ops ++ (op ∷ [])) x ≡ puts t r ops x = fold_push (put t r) x ops op ∙ put_other t r (puts t r ops x) op w in
    ap (λ b. cond b x (puts t r (ops ++ (op ∷ [])) x)) e ∙ ap (cond (aborted ops) x) p

pub lets_go_push : (t : ℕ) (ops : List Operation) (op : Operation) → lets_go t (ops ++ (op ∷ [])) ≡ (lets_go t ops || (is_release t op || is_end op))
lets_go_push t ops op =
    ap (λ b. b || ended (ops ++ (op ∷ []))) (some_push (is_release t) ops op) ∙ ap (λ b. (released t ops || is_release t op) || b) (some_push is_end ops op) ∙ or_swap (released t ops) (is_release t op) (ended ops) (is_end op)

-- once the table is let go of, or if it is not declared for writing, what is asked then changes nothing there
module _ (m : ℕ → Mode) (t r : ℕ) where
  abbrev pub Past : List Operation → Type 0
  Past ops = (writes (m t) ≡ true) → lets_go t ops ≡ true

  pub leaves_same : (ops : List Operation) (op : Operation) (x : Row) → Sound m ops → Allowed m ops op → Past ops → leaves t r (ops ++ (op ∷ [])) x ≡ leaves t r ops x
  leaves_same ops (Operation.Write u q v c) x s a p = leaves_push t r ops (Operation.Write u q v c) x (go (eqb t u) refl) refl
    where
      go : (b : Bool) → eqb t u ≡ b → b ≡ false
      go true e =
          let same : t ≡ u = eqb-true t u e in
          sym (p (rw same a.0)) ∙ rw same a.1
      go false e = refl
  leaves_same ops (Operation.Release u) x s a p = leaves_push t r ops (Operation.Release u) x refl refl
  leaves_same ops Operation.Commit x s a p = leaves_push t r ops Operation.Commit x refl refl
  leaves_same ops Operation.Abort x s a p =
      let q : some (is_write_at t) ops ≡ false = quiet m ops t s (unwritten (writes (m t)) refl) in
      let e : aborted (ops ++ (Operation.Abort ∷ [])) ≡ true = some_push is_abort ops Operation.Abort ∙ or_right (aborted ops) true refl in
      ap (λ b. cond b x (puts t r (ops ++ (Operation.Abort ∷ [])) x)) e ∙ sym (leaves_other t r ops x q)
    where
      unwritten : (b : Bool) → writes (m t) ≡ b → b ≡ false
      unwritten true e = sym (p e) ∙ ap (λ b. b || ended ops) (a.1 t e) ∙ a.0
      unwritten false e = refl

  past_push : (ops : List Operation) (op : Operation) → Past ops → Past (ops ++ (op ∷ []))
  past_push ops op p w = lets_go_push t ops op ∙ or_left (lets_go t ops) (is_release t op || is_end op) (p w)

  -- so the executed part of the operations leaves what all of them leave
  pub leaves_all : (ops : List Operation) (d n : ℕ) (x : Row) → Sound m ops → d + n ≤ length ops → Past (take d ops) → (leaves t r (take (d + n) ops) x ≡ leaves t r (take d ops) x) × Past (take (d + n) ops)
  leaves_all ops d zero x s h p = rw add-zero (refl, p)
  leaves_all ops d (suc n) x s h p =
      let ih = leaves_all ops d n x s (omega arith) p in
      let i : ℕ = d + n in
      let lt : i < length ops = omega arith in
      let op = get_or ops i Operation.Commit in
      let e : take (d + suc n) ops ≡ take i ops ++ (op ∷ []) = ap (λ k. take k ops) (add-suc d n) ∙ take-suc ops i Operation.Commit lt in
      let a = s i lt in
      let st = sound_take m ops i (omega arith) s in
      (ap (λ l. leaves t r l x) e ∙ leaves_same (take i ops) op x st a ih.1 ∙ ih.0, subst Past (sym e) (past_push (take i ops) op ih.1))
