-- A trace, access by access: the sequencer's counters of table 0 are those of the accesses so far.
use Rattle.std.proofs.Common.{◌≡◌, ℕ, ◌+◌, ◌<◌, Bool, true, false, cond, not, eqb, ltb, List, [], ◌∷◌, ◌++◌, length, get_or, drop, Some, None, Option, sym, refl, ap, ◌∙◌, append_assoc, add-one, arith, length-append}
use Rattle.std.proofs.lemmas.List.{drop_more}
use Rattle.catalogue.specs.declared.refusal.Refusal.{Refusal}
use Rattle.catalogue.specs.Refusals.{unless_refused}
use Rattle.sequencing.specs.declared.mode.Mode.{Mode}
use Rattle.sequencing.specs.declared.sequencer.Next.{Next}
use Rattle.tracing.specs.declared.trace.Letter.{Letter}
use Rattle.tracing.specs.declared.trace.Traced.{Traced}
use Rattle.tracing.specs.declared.trace.Stop.{Stop}
use Rattle.sequencing.specs.Modes.{declares}
use Rattle.sequencing.specs.Sequencer.{Counts, assigned, moved_on, next_at, all_moved_on, begin_refusal, begin_after}
use Rattle.tracing.specs.Trace.{letter_of, only, access_reply, counters, traced, preceded, trace_of, through_last_write, Steps}

-- the accesses of which the trace is already told, before the rest of it
abbrev pub joined : List Traced → List Traced × Stop → List Traced × Stop
joined xs t = (xs ++ t.0, t.1)

-- after the accesses `earlier`, the newest first, what is left of the line gives the rest of the trace
pub record After (earlier : List Mode) (counts : Counts) (accesses : List Traced) (line left : List ℕ) : Type 0 where
  pub next : next_at counts.next 0 ≡ counters earlier
  pub begun : counts.begun ≡ length earlier
  pub many : length accesses ≡ length earlier
  pub rest : joined accesses (trace_of earlier left) ≡ trace_of [] line

-- a letter that is an access reads or writes
declared : (b : ℕ) (m : Mode) → letter_of b ≡ Letter.Access m → declares m ≡ true
declared b m = go (eqb b 114) (eqb b 119) (eqb b 10)
  where
    go : (r w n : Bool) → cond r (Letter.Access Mode.Read) (cond w (Letter.Access Mode.Write) (cond n Letter.LineEnd Letter.Unknown)) ≡ Letter.Access m → declares m ≡ true
    go true w n e = let d : declares Mode.Read ≡ true = refl in cc
    go false true n e = let d : declares Mode.Write ≡ true = refl in cc
    go false false true e = cc
    go false false false e = cc

counters_more : (m : Mode) (earlier : List Mode) → declares m ≡ true → moved_on m (counters earlier) ≡ counters (m ∷ earlier)
counters_more Mode.None earlier e = cc
counters_more Mode.Read earlier e = ap (λ n. record { read = through_last_write earlier; write = n }) (add-one (length earlier))
counters_more Mode.Write earlier e = ap (λ n. record { read = length earlier + 1; write = n }) (add-one (length earlier))

-- the rest of a trace from a byte on, by the letter that the byte is
abbrev by : List Mode → ℕ → List ℕ → Letter → List Traced × Stop
by earlier b bs x =
    elim x [
      | Letter.Access m ↦ cond (ltb (length earlier) 1000000) (preceded (traced m earlier) (trace_of (m ∷ earlier) bs)) ([], Stop.Refused (length earlier + 1) Refusal.TooManyBegun)
      | Letter.LineEnd ↦ ([], Stop.LineEnd)
      | Letter.Unknown ↦ ([], Stop.Unknown (length earlier + 1) b)
    ]

-- what the sequencer checks of an access
checked : Bool → ℕ
checked room = cond (not room) 5 0

refusal_is : (c : Counts) (m : Mode) → declares m ≡ true → begin_refusal c (only m) ≡ checked (ltb c.begun 1000000)
unfolding checked
refusal_is c Mode.None e = cc
refusal_is c Mode.Read e = refl
refusal_is c Mode.Write e = refl

module _ {earlier : List Mode} {counts : Counts} {accesses : List Traced} {line : List ℕ} (i : ℕ) (l : i < length line) (a : After earlier counts accesses line (drop i line)) where
  -- the byte at the place, and those behind it
  abbrev b : ℕ
  b = get_or line i 0

  abbrev bs : List ℕ
  bs = drop (i + 1) line

  rest_by : (x : Letter) → letter_of b ≡ x → joined accesses (by earlier b bs x) ≡ trace_of [] line
  rest_by x e =
      ap (λ (y : Letter). joined accesses (by earlier b bs y)) (sym e)
      ∙ ap (λ (left : List ℕ). joined accesses (trace_of earlier left)) (sym (drop_more line i 0 l))
      ∙ a.rest

  module _ (m : Mode) (e : Letter.Access m ≡ letter_of b) where
    refusal_here : begin_refusal counts (only m) ≡ checked (ltb (length earlier) 1000000)
    refusal_here = refusal_is counts m (declared b m (sym e)) ∙ ap (λ n. checked (ltb n 1000000)) a.begun

    value_here : record { assigned = assigned m (next_at counts.next 0); next = moved_on m (next_at counts.next 0) } ≡ traced m earlier
    value_here =
        ap (λ (n : Next). record { assigned = assigned m n; next = moved_on m n }) a.next
        ∙ ap (λ (n : Next). record { assigned = assigned m (counters earlier); next = n }) (counters_more m earlier (declared b m (sym e)))

    reply_here : access_reply counts m ≡ unless_refused (checked (ltb (length earlier) 1000000)) (traced m earlier)
    reply_here =
        ap (λ n. unless_refused n (record { assigned = assigned m (next_at counts.next 0); next = moved_on m (next_at counts.next 0) })) refusal_here
        ∙ ap (unless_refused (checked (ltb (length earlier) 1000000))) value_here

    -- an access that is accepted
    module _ (x : Traced) (told : (0, Some x) ≡ access_reply counts m) where
      answer_here : (room : Bool) → (0, Some x) ≡ unless_refused (checked room) (traced m earlier) → (room ≡ true) × (x ≡ traced m earlier)
      unfolding checked
      answer_here true t = (refl, let same : Some x ≡ Some (traced m earlier) = ap (λ y. y.1) t in cc)
      answer_here false t = let no : ◌≡◌ {A = Option Traced} (Some x) None = ap (λ y. y.1) t in (cc, cc)

      room : ltb (length earlier) 1000000 ≡ true
      room = (answer_here (ltb (length earlier) 1000000) (told ∙ reply_here)).0

      value : x ≡ traced m earlier
      value = (answer_here (ltb (length earlier) 1000000) (told ∙ reply_here)).1

      accepted_after : begin_after counts (only m) ≡ record { begun = counts.begun + 1; next = all_moved_on (only m) counts.next }
      unfolding checked
      accepted_after =
          ap (λ n. cond (eqb n 0) (record { begun = counts.begun + 1; next = all_moved_on (only m) counts.next }) counts)
          (refusal_here ∙ ap checked room)

      accepted : (counts' : Counts) (accesses' : List Traced) → counts' ≡ begin_after counts (only m) → accesses' ≡ accesses ++ x ∷ [] → After (m ∷ earlier) counts' accesses' line bs
      accepted counts' accesses' later pushed =
          record {
            next = ap (λ (c : Counts). next_at c.next 0) (later ∙ accepted_after) ∙ ap (moved_on m) a.next ∙ counters_more m earlier (declared b m (sym e));
            begun = ap (λ (c : Counts). c.begun) (later ∙ accepted_after) ∙ ap (λ n. n + 1) a.begun ∙ add-one (length earlier);
            many = ap length pushed ∙ length-append accesses (x ∷ []) ∙ omega (arith, a.many);
            rest =
                ap (λ (xs : List Traced). joined xs (trace_of (m ∷ earlier) bs)) pushed
                ∙ ap (λ (xs : List Traced). (xs, (trace_of (m ∷ earlier) bs).1)) (append_assoc accesses (x ∷ []) (trace_of (m ∷ earlier) bs).0)
                ∙ ap (λ (y : Traced). joined accesses (preceded y (trace_of (m ∷ earlier) bs))) value
                ∙ ap (λ (v : Bool). joined accesses (cond v (preceded (traced m earlier) (trace_of (m ∷ earlier) bs)) ([], Stop.Refused (length earlier + 1) Refusal.TooManyBegun))) (sym room)
                ∙ rest_by (Letter.Access m) (sym e);
          }

  -- a byte that is an access
  pub stepped : (x : Traced) (counts' : Counts) (accesses' : List Traced) (s : Steps counts b x counts') → accesses' ≡ accesses ++ x ∷ [] → After (s.mode ∷ earlier) counts' accesses' line bs
  stepped x counts' accesses' s pushed = accepted s.mode (sym s.letter) x s.answer counts' accesses' s.moved pushed
