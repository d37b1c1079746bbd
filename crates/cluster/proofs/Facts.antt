-- What holds of a transaction by the facts that it carries: what it asked is in range, and when it lets go of a table.
use Rattle.std.proofs.Common.{◌≡◌, ℕ, zero, suc, ◌+◌, ◌<◌, ◌≤◌, Bool, true, false, cond, not, ◌&&◌, ◌||◌, eqb, ltb, ◌⊎◌, List, [], ◌∷◌, ◌++◌, length, get_or, take, sym, refl, ap, ◌∙◌, subst, inl, inr, true≢false, not-suc-le-zero, arith}
use mathlib.Core.Bool.{false≢true}
use Rattle.std.proofs.lemmas.List.{take_more, take-append-le}
use Rattle.std.proofs.lemmas.Bool.{and_parts, or_from, or_left, or_right, cases_lt, eq-eqb, eqb-true, ltb-true, le-ltb, not-true}
use Rattle.sequencing.specs.declared.mode.Mode.{Mode}
use Rattle.sequencing.specs.Modes.{declares}
use Rattle.versioning.specs.declared.operation.Operation.{Operation}
use Rattle.versioning.specs.Words.{Course, ask, advance, mode, writes, is_release, is_end, is_write, released, ended, lets_go, done, waits, next, has_let_go, has_table}
use Rattle.versioning.proofs.Ops.{lets_go_push}
use Rattle.cluster.specs.declared.transaction.Transaction.{Transaction}
use Rattle.cluster.specs.Orderly.{mode_in, may_follow, orderly, executed_at}
use Rattle.cluster.specs.Transactions.{course_of}
use Rattle.cluster.specs.Executing.{InRange}
use Rattle.cluster.proofs.Waiting.{waits_below}

-- each operation may follow those before it
follows_at : (modes : List Mode) (ops : List Operation) (n i : ℕ) → orderly modes ops n ≡ true → i < n → may_follow modes (take i ops) (get_or ops i Operation.Commit) ≡ true
follows_at modes ops zero i o l = absurd (not-suc-le-zero l)
follows_at modes ops (suc n) i o l = go (cases_lt i n) (λ q. follows_at modes ops n i parts.0 q)
  where
    parts : (orderly modes ops n ≡ true) × (may_follow modes (take n ops) (get_or ops n Operation.Commit) ≡ true)
    parts = and_parts (orderly modes ops n) (may_follow modes (take n ops) (get_or ops n Operation.Commit)) o

    go : (i < n) ⊎ (n ≤ i) → (i < n → may_follow modes (take i ops) (get_or ops i Operation.Commit) ≡ true) → may_follow modes (take i ops) (get_or ops i Operation.Commit) ≡ true
    go (inl q) f = f q
    go (inr q) f =
        let e : n ≡ i = omega arith in
        subst (λ (k : ℕ). may_follow modes (take k ops) (get_or ops k Operation.Commit) ≡ true) e parts.1

may_range : (modes : List Mode) (before : List Operation) (op : Operation) → may_follow modes before op ≡ true → InRange op
may_range modes before (Operation.Write t r v c) h =
    let p = (and_parts (writes (mode_in modes t)) (not (lets_go t before) && (ltb t 8 && (ltb r 64 && ltb c 8))) h).1 in
    let q = (and_parts (not (lets_go t before)) (ltb t 8 && (ltb r 64 && ltb c 8)) p).1 in
    let s = and_parts (ltb t 8) (ltb r 64 && ltb c 8) q in
    (ltb-true t 8 s.0, ltb-true r 64 (and_parts (ltb r 64) (ltb c 8) s.1).0)
may_range modes before (Operation.Release t) h = tt
may_range modes before Operation.Commit h = tt
may_range modes before Operation.Abort h = tt

-- what was asked is in range
pub in_range : (x : Transaction) (i : ℕ) → i < length x.asked.items → InRange (get_or x.asked.items i Operation.Commit)
in_range x i l =
    may_range x.declared (take i x.asked.items) (get_or x.asked.items i Operation.Commit) (follows_at x.declared x.asked.items (length x.asked.items) i x.allowed l)

-- a table that is declared is one of the eight
pub declared_below : (c : Course) (t : ℕ) → declares (mode c t) ≡ true → t < 8
declared_below c t h = go (cases_lt t 8)
  where
    go : (t < 8) ⊎ (8 ≤ t) → t < 8
    go (inl l) = l
    go (inr l) = absurd (false≢true (sym (ap (λ b. declares (cond b (get_or c.declared t Mode.None) Mode.None)) (le-ltb t 8 l)) ∙ h))

-- an operation that may follow those before and is no write: its tables are declared, and not let go of yet
tables_held : (c : Course) (before : List Operation) (op : Operation) (t : ℕ) → may_follow c.declared before op ≡ true → is_write op ≡ false → has_table c before op t ≡ true → (declares (mode c t) ≡ true) × (lets_go t before ≡ false)
tables_held c before (Operation.Write u r v k) t f w h = absurd (true≢false w)
tables_held c before (Operation.Release u) t f w h =
    let p = and_parts (declares (mode c u)) (not (lets_go u before) && ltb u 8) f in
    let q = and_parts (not (lets_go u before)) (ltb u 8) p.1 in
    let e : u ≡ t = sym (eqb-true t u h) in
    (subst (λ (i : ℕ). declares (mode c i) ≡ true) e p.0, subst (λ (i : ℕ). lets_go i before ≡ false) e (not-true (lets_go u before) q.0))
tables_held c before Operation.Commit t f w h =
    let p = and_parts (declares (mode c t)) (not (released t before)) h in
    (p.0, or_from (released t before) (ended before) (not-true (released t before) p.1) (not-true (ended before) f))
tables_held c before Operation.Abort t f w h =
    let p = and_parts (declares (mode c t)) (not (released t before)) h in
    (p.0, or_from (released t before) (ended before) (not-true (released t before) p.1) (not-true (ended before) f))

-- and it lets go of them, and of no other table that is declared
lets_go_of : (c : Course) (before : List Operation) (op : Operation) (t : ℕ) → is_write op ≡ false → has_table c before op t ≡ true → (is_release t op || is_end op) ≡ true
lets_go_of c before (Operation.Write u r v k) t w h = absurd (true≢false w)
lets_go_of c before (Operation.Release u) t w h = or_left (eqb t u) false h
lets_go_of c before Operation.Commit t w h = refl
lets_go_of c before Operation.Abort t w h = refl

or_nothing : (a b : Bool) → b ≡ false → (a || b) ≡ a
or_nothing true b h = refl
or_nothing false b h = h

or_both : (a : Bool) → a ≡ true → (a || true) ≡ a
or_both true h = refl
or_both false h = absurd (false≢true h)

undeclared_or : (d r : Bool) → d ≡ true → (d && not r) ≡ false → r ≡ true
undeclared_or true true d h = refl
undeclared_or true false d h = absurd (true≢false h)
undeclared_or false r d h = absurd (false≢true d)

keeps_others : (c : Course) (before : List Operation) (op : Operation) (t : ℕ) → declares (mode c t) ≡ true → has_table c before op t ≡ false → (lets_go t before || (is_release t op || is_end op)) ≡ lets_go t before
keeps_others c before (Operation.Write u r v k) t d h = or_nothing (lets_go t before) false refl
keeps_others c before (Operation.Release u) t d h = or_nothing (lets_go t before) (eqb t u || false) (or_from (eqb t u) false h refl)
keeps_others c before Operation.Commit t d h = or_both (lets_go t before) (or_left (released t before) (ended before) (undeclared_or (declares (mode c t)) (released t before) d h))
keeps_others c before Operation.Abort t d h = or_both (lets_go t before) (or_left (released t before) (ended before) (undeclared_or (declares (mode c t)) (released t before) d h))

-- what a course has executed after one operation more, at the replica and elsewhere
module _ (c : Course) (j : ℕ) where
  done_next : waits c j ≡ true → done (advance j c) j ≡ done c j ++ (next c j ∷ [])
  done_next w =
      ap (λ b. take (cond b (c.executed j + 1) (c.executed j)) c.asked) (eq-eqb j j refl)
      ∙ take_more c.asked (c.executed j) Operation.Commit (ltb-true (c.executed j) (length c.asked) w)

  -- no other replica executes anything
  pub let_go_elsewhere : (i t : ℕ) → eqb i j ≡ false → has_let_go (advance j c) i t ≡ has_let_go c i t
  let_go_elsewhere i t e = ap (λ b. lets_go t (take (cond b (c.executed j + 1) (c.executed i)) c.asked)) e

  let_go_next : (t : ℕ) → waits c j ≡ true → has_let_go (advance j c) j t ≡ (has_let_go c j t || (is_release t (next c j) || is_end (next c j)))
  let_go_next t w = ap (lets_go t) (done_next w) ∙ lets_go_push t (done c j) (next c j)

  -- a write lets go of nothing
  pub write_keeps : (t : ℕ) → waits c j ≡ true → is_write (next c j) ≡ true → has_let_go (advance j c) j t ≡ has_let_go c j t
  write_keeps t w h = let_go_next t w ∙ or_nothing (has_let_go c j t) (is_release t (next c j) || is_end (next c j)) (neither (next c j) h)
    where
      neither : (op : Operation) → is_write op ≡ true → (is_release t op || is_end op) ≡ false
      neither (Operation.Write u r v k) e = refl
      neither (Operation.Release u) e = absurd (false≢true e)
      neither Operation.Commit e = absurd (false≢true e)
      neither Operation.Abort e = absurd (false≢true e)

  -- what is no write lets go of its tables
  pub lets_go_next : (t : ℕ) → waits c j ≡ true → is_write (next c j) ≡ false → has_table c (done c j) (next c j) t ≡ true → has_let_go (advance j c) j t ≡ true
  lets_go_next t w n h =
      let_go_next t w ∙ or_right (has_let_go c j t) (is_release t (next c j) || is_end (next c j)) (lets_go_of c (done c j) (next c j) t n h)

  -- and of no other that is declared
  pub others_kept : (t : ℕ) → waits c j ≡ true → declares (mode c t) ≡ true → has_table c (done c j) (next c j) t ≡ false → has_let_go (advance j c) j t ≡ has_let_go c j t
  others_kept t w d h = let_go_next t w ∙ keeps_others c (done c j) (next c j) t d h

module _ (x : Transaction) (j : ℕ) where
  -- a next operation that is no write has tables that are declared, and not let go of at the replica yet
  pub next_tables : (t : ℕ) → waits (course_of x) j ≡ true → is_write (next (course_of x) j) ≡ false → has_table (course_of x) (done (course_of x) j) (next (course_of x) j) t ≡ true → (declares (mode (course_of x) t) ≡ true) × (has_let_go (course_of x) j t ≡ false)
  next_tables t w n h =
      let f = follows_at x.declared x.asked.items (length x.asked.items) (executed_at x.progress j) x.allowed (waits_below x j w) in
      tables_held (course_of x) (done (course_of x) j) (next (course_of x) j) t f n h

  -- to ask lets go of nothing at any replica
  pub asking_keeps : (op : Operation) (t : ℕ) → has_let_go (ask op (course_of x)) j t ≡ has_let_go (course_of x) j t
  asking_keeps op t =
      ap (lets_go t) (take-append-le (executed_at x.progress j) x.asked.items (op ∷ []) (x.within j))
