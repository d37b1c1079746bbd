-- What stays true of the transactions begun: each is asked in order, and reached a table at a replica only once those before it let go.
use Rattle.std.proofs.Common.{◌≡◌, ℕ, ◌+◌, ◌≤◌, Bool, true, false, cond, not, ◌&&◌, ◌||◌, eqb, ◌⊎◌, List, [], ◌∷◌, ◌++◌, length, take, sym, refl, ap, ◌∙◌, subst, inl, inr, true≢false, arith}
use mathlib.Core.Bool.{false≢true}
use Rattle.std.proofs.lemmas.List.{take-append-le, take_more, length_push}
use Rattle.std.proofs.lemmas.Bool.{eqb-true, eq-eqb, or_parts, or_cases, or_left, or_right, or_from, and_parts, ltb-true, not-true}
use Rattle.sequencing.specs.declared.mode.Mode.{Mode}
use Rattle.versioning.specs.declared.operation.Operation.{Operation}
use Rattle.sequencing.specs.Modes.{some, declares}
use Rattle.sequencing.specs.Sequencer.{assigned}
use Rattle.versioning.specs.Words.{conflict, is_release, is_end, is_write_at, released, ended, lets_go, Course, mode, done, has_let_go, waits, next, has_table, ask, advance}
use Rattle.versioning.specs.Machine.{admits}
use Rattle.versioning.proofs.Marks.{Mark, mark, let_go, counters, blocks, Cleared, Ordered, admitted}
use Rattle.versioning.proofs.Ops.{some_push, Allowed, Sound, sound_push}

abbrev pub marks : ℕ → ℕ → List Course → List Mark
marks j t [] = []
marks j t (c ∷ cs) = mark (mode c t) (has_let_go c j t) ∷ marks j t cs

abbrev pub touches : ℕ → Operation → Bool
touches t (Operation.Write u r v c) = eqb t u
touches t (Operation.Release u) = eqb t u
touches t Operation.Commit = true
touches t Operation.Abort = true

abbrev pub reached : Course → ℕ → ℕ → Bool
reached c j t = some (touches t) (done c j)

pub record Fine (c : Course) (earlier : List Course) : Type 0 where
  pub sound : Sound (mode c) c.asked
  pub within : (j : ℕ) → c.executed j ≤ length c.asked
  pub cleared : (j t : ℕ) → reached c j t ≡ true → blocks (mode c t) (marks j t earlier) ≡ false

abbrev pub Valid : List Course → Type 0
Valid [] = Unit {0}
Valid (c ∷ cs) = Fine c cs × Valid cs

pub some_weaker : {A : Type 0} (p q : A → Bool) → ((x : A) → p x ≡ true → q x ≡ true) → (xs : List A) → some p xs ≡ true → some q xs ≡ true
some_weaker p q f [] h = h
some_weaker p q f (x ∷ xs) h =
    elim (or_cases (p x) (some p xs) h) [ inl e ↦ or_left (q x) (some q xs) (f x e) | inr e ↦ or_right (q x) (some q xs) (some_weaker p q f xs e) ]

release_touches : (t : ℕ) (op : Operation) → is_release t op ≡ true → touches t op ≡ true
release_touches t (Operation.Write u r v c) h = absurd (false≢true h)
release_touches t (Operation.Release u) h = h
release_touches t Operation.Commit h = refl
release_touches t Operation.Abort h = refl

end_touches : (t : ℕ) (op : Operation) → is_end op ≡ true → touches t op ≡ true
end_touches t (Operation.Write u r v c) h = absurd (false≢true h)
end_touches t (Operation.Release u) h = absurd (false≢true h)
end_touches t Operation.Commit h = refl
end_touches t Operation.Abort h = refl

write_touches : (t : ℕ) (op : Operation) → is_write_at t op ≡ true → touches t op ≡ true
write_touches t (Operation.Write u r v c) h = h
write_touches t (Operation.Release u) h = absurd (false≢true h)
write_touches t Operation.Commit h = refl
write_touches t Operation.Abort h = refl

pub gone_reached : (t : ℕ) (ops : List Operation) → lets_go t ops ≡ true → some (touches t) ops ≡ true
gone_reached t ops h =
    elim (or_cases (released t ops) (ended ops) h) [
      | inl e ↦ some_weaker (is_release t) (touches t) (release_touches t) ops e
      | inr e ↦ some_weaker is_end (touches t) (end_touches t) ops e
    ]

pub wrote_reached : (t : ℕ) (ops : List Operation) → some (is_write_at t) ops ≡ true → some (touches t) ops ≡ true
wrote_reached t ops h = some_weaker (is_write_at t) (touches t) (write_touches t) ops h

pub ordered : (j t : ℕ) (cs : List Course) → Valid cs → Ordered (marks j t cs)
ordered j t [] v = tt
ordered j t (c ∷ cs) v = (go (mode c t) (has_let_go c j t) (λ h. v.0.cleared j t (gone_reached t (done c j) h)), ordered j t cs v.1)
  where
    go : (m : Mode) (g : Bool) → (g ≡ true → blocks m (marks j t cs) ≡ false) → Cleared (mark m g) (marks j t cs)
    go Mode.None g f = tt
    go Mode.Read true f = f refl
    go Mode.Read false f = tt
    go Mode.Write true f = f refl
    go Mode.Write false f = tt

-- the tests of the statement, by the marks
pub blocks_cons : (m k : Mode) (g : Bool) (ms : List Mark) → blocks m (mark k g ∷ ms) ≡ ((conflict m k && not g) || blocks m ms)
blocks_cons Mode.None k g ms = refl
blocks_cons Mode.Read Mode.None g ms = refl
blocks_cons Mode.Read Mode.Read g ms = refl
blocks_cons Mode.Read Mode.Write true ms = refl
blocks_cons Mode.Read Mode.Write false ms = refl
blocks_cons Mode.Write Mode.None g ms = refl
blocks_cons Mode.Write Mode.Read true ms = refl
blocks_cons Mode.Write Mode.Read false ms = refl
blocks_cons Mode.Write Mode.Write true ms = refl
blocks_cons Mode.Write Mode.Write false ms = refl

pub blocks_is : (m : Mode) (j t : ℕ) (cs : List Course) → some (λ e. conflict m (mode e t) && not (has_let_go e j t)) cs ≡ blocks m (marks j t cs)
blocks_is Mode.None j t [] = refl
blocks_is Mode.Read j t [] = refl
blocks_is Mode.Write j t [] = refl
blocks_is m j t (c ∷ cs) = ap (λ b. (conflict m (mode c t) && not (has_let_go c j t)) || b) (blocks_is m j t cs) ∙ sym (blocks_cons m (mode c t) (has_let_go c j t) (marks j t cs))

pub marks_append : (j t : ℕ) (ns cs : List Course) → marks j t (ns ++ cs) ≡ marks j t ns ++ marks j t cs
marks_append j t [] cs = refl
marks_append j t (n ∷ ns) cs = ap (λ ms. mark (mode n t) (has_let_go n j t) ∷ ms) (marks_append j t ns cs)

-- a table of the next operation is not let go of
pub not_gone : (c : Course) (before : List Operation) (op : Operation) (t : ℕ) → Allowed (mode c) before op → has_table c before op t ≡ true → lets_go t before ≡ false
not_gone c before (Operation.Write u r v k) t a h = rw (eqb-true t u h) a.1
not_gone c before (Operation.Release u) t a h = rw (eqb-true t u h) a.1
not_gone c before Operation.Commit t a h = or_from (released t before) (ended before) (not-true (released t before) (and_parts (declares (mode c t)) (not (released t before)) h).1) a
not_gone c before Operation.Abort t a h = or_from (released t before) (ended before) (not-true (released t before) (and_parts (declares (mode c t)) (not (released t before)) h).1) a.0

pub next_allowed : (c : Course) (earlier : List Course) (j : ℕ) → Fine c earlier → waits c j ≡ true → Allowed (mode c) (done c j) (next c j)
next_allowed c earlier j f w = f.sound (c.executed j) (ltb-true (c.executed j) (length c.asked) w)

-- a table is among those of an end, or not declared, or released
at_end : (m : Mode) (b : Bool) → ((declares m && not b) ≡ true) ⊎ ((m ≡ Mode.None) ⊎ (b ≡ true))
at_end Mode.None b = inr (inl refl)
at_end Mode.Read true = inr (inr refl)
at_end Mode.Read false = inl refl
at_end Mode.Write true = inr (inr refl)
at_end Mode.Write false = inl refl

-- an operation more is asked, or executed
module _ (c : Course) (earlier : List Course) (f : Fine c earlier) where
  pub done_ask : (op : Operation) (j : ℕ) → done (ask op c) j ≡ done c j
  done_ask op j = take-append-le (c.executed j) c.asked (op ∷ []) (f.within j)

  pub fine_ask : (op : Operation) → Allowed (mode c) c.asked op → Fine (ask op c) earlier
  fine_ask op a =
      record {
        sound = sound_push (mode c) c.asked op f.sound a;
        within = λ j. omega (arith, length_push c.asked op, f.within j);
        cleared = λ j t h. f.cleared j t (ap (some (touches t)) (sym (done_ask op j)) ∙ h);
      }

  module _ (j : ℕ) (w : waits c j ≡ true) where
    pub done_run : done (advance j c) j ≡ done c j ++ (next c j ∷ [])
    done_run = rw (eq-eqb j j refl) (take_more c.asked (c.executed j) Operation.Commit (ltb-true (c.executed j) (length c.asked) w))

    pub done_other : (i : ℕ) → eqb i j ≡ false → done (advance j c) i ≡ done c i
    done_other i h = ap (λ b. take (cond b (c.executed j + 1) (c.executed i)) c.asked) h

    -- what an operation touches is among its tables, or let go of already, or not declared
    touched : (op : Operation) (before : List Operation) (t : ℕ) → touches t op ≡ true → (has_table c before op t ≡ true) ⊎ ((mode c t ≡ Mode.None) ⊎ (released t before ≡ true))
    touched (Operation.Write u r v k) before t h = inl h
    touched (Operation.Release u) before t h = inl h
    touched Operation.Commit before t h = at_end (mode c t) (released t before)
    touched Operation.Abort before t h = at_end (mode c t) (released t before)

    pub fine_run : ((t : ℕ) → has_table c (done c j) (next c j) t ≡ true → blocks (mode c t) (marks j t earlier) ≡ false) → Fine (advance j c) earlier
    fine_run free = record { sound = f.sound; within = within; cleared = λ i t h. cleared i t (eqb i j) refl h }
      where
        within : (i : ℕ) → (advance j c).executed i ≤ length c.asked
        within i = go (eqb i j)
          where
            go : (b : Bool) → cond b (c.executed j + 1) (c.executed i) ≤ length c.asked
            go true = omega (arith, ltb-true (c.executed j) (length c.asked) w)
            go false = f.within i

        here : (t : ℕ) → some (touches t) (done c j ++ (next c j ∷ [])) ≡ true → blocks (mode c t) (marks j t earlier) ≡ false
        here t h =
            elim (or_cases (reached c j t) (touches t (next c j)) (sym (some_push (touches t) (done c j) (next c j)) ∙ h)) [
              | inl e ↦ f.cleared j t e
              | inr e ↦ elim (touched (next c j) (done c j) t e) [
                | inl g ↦ free t g
                | inr (inl g) ↦ ap (λ m. blocks m (marks j t earlier)) g
                | inr (inr g) ↦ f.cleared j t (gone_reached t (done c j) (or_left (released t (done c j)) (ended (done c j)) g))
              ]
            ]

        cleared : (i t : ℕ) (b : Bool) → eqb i j ≡ b → reached (advance j c) i t ≡ true → blocks (mode c t) (marks i t earlier) ≡ false
        cleared i t true e h =
            let same : i ≡ j = eqb-true i j e in
            rw same (here t (ap (some (touches t)) (sym done_run) ∙ ap (λ k. reached (advance j c) k t) (sym same) ∙ h))
        cleared i t false e h = f.cleared i t (ap (some (touches t)) (sym (done_other i e)) ∙ h)

-- has-let-go stays has-let-go
module _ (e e' : Course) (earlier : List Course) (same : (t : ℕ) → mode e' t ≡ mode e t) (kept : (j t : ℕ) → has_let_go e j t ≡ true → has_let_go e' j t ≡ true) where
  blocks_kept : (m : Mode) (j t : ℕ) (ns : List Course) → blocks m (marks j t (ns ++ (e ∷ earlier))) ≡ false → blocks m (marks j t (ns ++ (e' ∷ earlier))) ≡ false
  blocks_kept m j t [] h =
      let p = or_parts (conflict m (mode e t) && not (has_let_go e j t)) (blocks m (marks j t earlier)) (sym (blocks_cons m (mode e t) (has_let_go e j t) (marks j t earlier)) ∙ h) in
      blocks_cons m (mode e' t) (has_let_go e' j t) (marks j t earlier) ∙ or_from (conflict m (mode e' t) && not (has_let_go e' j t)) (blocks m (marks j t earlier)) (ap (λ k. conflict m k && not (has_let_go e' j t)) (same t) ∙ go (conflict m (mode e t)) (has_let_go e j t) (has_let_go e' j t) (kept j t) p.0) p.1
    where
      go : (a b c : Bool) → (b ≡ true → c ≡ true) → (a && not b) ≡ false → (a && not c) ≡ false
      go true true true k q = refl
      go true true false k q = absurd (false≢true (k refl))
      go true false c k q = absurd (true≢false q)
      go false b c k q = refl
  blocks_kept m j t (n ∷ ns) h =
      let p = or_parts (conflict m (mode n t) && not (has_let_go n j t)) (blocks m (marks j t (ns ++ (e ∷ earlier)))) (sym (blocks_cons m (mode n t) (has_let_go n j t) (marks j t (ns ++ (e ∷ earlier)))) ∙ h) in
      blocks_cons m (mode n t) (has_let_go n j t) (marks j t (ns ++ (e' ∷ earlier))) ∙ or_from (conflict m (mode n t) && not (has_let_go n j t)) (blocks m (marks j t (ns ++ (e' ∷ earlier)))) p.0 (blocks_kept m j t ns p.1)

  pub valid_amended : (ns : List Course) → Valid (ns ++ (e ∷ earlier)) → Fine e' earlier → Valid (ns ++ (e' ∷ earlier))
  valid_amended [] v f = (f, v.1)
  valid_amended (n ∷ ns) v f =
      (record { sound = v.0.sound; within = v.0.within; cleared = λ j t h. blocks_kept (mode n t) j t ns (v.0.cleared j t h) }, valid_amended ns v.1 f)

pub valid_behind : (ns cs : List Course) → Valid (ns ++ cs) → Valid cs
valid_behind [] cs v = v
valid_behind (n ∷ ns) cs v = valid_behind ns cs v.1

-- the numbers assigned and the version tell whether a table of the next operation is free
pub admits_right : (j t : ℕ) (ns : List Course) (c : Course) (earlier : List Course) → Valid (ns ++ (c ∷ earlier)) → has_let_go c j t ≡ false →
    admits (assigned (mode c t) (counters (marks j t earlier))) (let_go (marks j t (ns ++ (c ∷ earlier)))) ≡ not (blocks (mode c t) (marks j t earlier))
admits_right j t ns c earlier v g =
    let e : marks j t (ns ++ (c ∷ earlier)) ≡ marks j t ns ++ (mark (mode c t) false ∷ marks j t earlier) = marks_append j t ns (c ∷ earlier) ∙ ap (λ b. marks j t ns ++ (mark (mode c t) b ∷ marks j t earlier)) g in
    rw e (admitted (mode c t) (marks j t ns) (marks j t earlier) (subst Ordered e (ordered j t (ns ++ (c ∷ earlier)) v)))
