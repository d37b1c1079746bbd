-- The machine's state is what the transactions begun tell.
use Rattle.std.proofs.Common.{◌≡◌, ℕ, zero, suc, ◌<◌, ◌≤◌, Bool, true, false, cond, not, eqb, ◌≢◌, ◌⊎◌, List, [], ◌∷◌, ◌++◌, length, get_or, sym, refl, ap, ◌∙◌, subst, inl, inr, not-suc-le-zero, add-one, arith, length-append}
use mathlib.Core.Path.{fun_ext}
use mathlib.Core.Bool.{false≢true}
use Rattle.std.proofs.lemmas.Bool.{eq-eqb, ne_eqb, cases_order}
use Rattle.catalogue.specs.declared.row.Row.{Row}
use Rattle.sequencing.specs.declared.mode.Mode.{Mode}
use Rattle.sequencing.specs.declared.sequencer.Next.{Next}
use Rattle.sequencing.specs.Sequencer.{nothing_yet, assigned, moved_on, all_assigned, all_moved_on}
use Rattle.versioning.specs.declared.operation.Operation.{Operation}
use Rattle.catalogue.specs.Rows.{blank, place}
use Rattle.sequencing.specs.Modes.{tables}
use Rattle.versioning.specs.Words.{ended, lets_go, Course, beginning, mode, done, has_let_go, ask}
use Rattle.versioning.specs.Machine.{Transaction, State, replica, finished, find, replace, newcomer, beginning_after, asking_transaction, asking, all_executed}
use Rattle.versioning.specs.Ledger.{from, amend}
use Rattle.versioning.proofs.Marks.{Mark, mark, let_go, next_w, next_r, counters}
use Rattle.versioning.proofs.Ops.{Allowed, leaves}
use Rattle.versioning.proofs.Valid.{marks, Fine, Valid, done_ask, fine_ask, valid_amended, valid_behind}
use Rattle.versioning.proofs.Cells.{standing, by, standing_amended}
use Rattle.versioning.proofs.Unfinished.{OldestFirst, oldest_first_push, oldest_first_replace, find_push_other, find_push_new, find_replace_other, find_replace_same}
use Rattle.versioning.proofs.Executed.{marks_other, wrote, undone}

-- a transaction of a list, those after it and those before it
pub split : (P : ℕ → List Course → Type 0) → ((ns : List Course) (e : Course) (earlier : List Course) → P (length earlier) (ns ++ (e ∷ earlier))) → (cs : List Course) (k : ℕ) → k < length cs → P k cs
split P f [] k h = absurd (not-suc-le-zero h)
split P f (c ∷ cs) k h = go (split (λ i l. P i (c ∷ l)) (λ ns e earlier. f (c ∷ ns) e earlier) cs k) (cases_order k (length cs))
  where
    go : (k < length cs → P k (c ∷ cs)) → (k ≡ length cs) ⊎ ((k < length cs) ⊎ (length cs < k)) → P k (c ∷ cs)
    go g (inl e) = subst (λ i. P i (c ∷ cs)) (sym e) (f [] c cs)
    go g (inr (inl l)) = g l
    go g (inr (inr l)) = absurd (not-suc-le-zero {n = 0} (omega arith))

pub after_it : (ns : List Course) (e : Course) (earlier : List Course) → eqb (length (ns ++ (e ∷ earlier))) (length earlier) ≡ false
after_it ns e earlier = ne_eqb (length (ns ++ (e ∷ earlier))) (length earlier) (λ h. omega (arith, length-append ns (e ∷ earlier)))

pub from_split : (ns : List Course) (e : Course) (earlier : List Course) → from (length earlier) (ns ++ (e ∷ earlier)) ≡ e ∷ earlier
from_split [] e earlier = ap (λ b. cond b (e ∷ earlier) (from (length earlier) earlier)) (eq-eqb (length earlier) (length earlier) refl)
from_split (n ∷ ns) e earlier = ap (λ b. cond b (n ∷ (ns ++ (e ∷ earlier))) (from (length earlier) (ns ++ (e ∷ earlier)))) (after_it ns e earlier) ∙ from_split ns e earlier

pub amend_split : (f : Course → Course) (ns : List Course) (e : Course) (earlier : List Course) → amend (length earlier) f (ns ++ (e ∷ earlier)) ≡ ns ++ (f e ∷ earlier)
amend_split f [] e earlier = ap (λ b. cond b (f e ∷ earlier) (e ∷ amend (length earlier) f earlier)) (eq-eqb (length earlier) (length earlier) refl)
amend_split f (n ∷ ns) e earlier = ap (λ b. cond b (f n ∷ (ns ++ (e ∷ earlier))) (n ∷ amend (length earlier) f (ns ++ (e ∷ earlier)))) (after_it ns e earlier) ∙ ap (λ l. n ∷ l) (amend_split f ns e earlier)

-- the table's counters for the next to begin
abbrev pub nx : ℕ → List Course → Next
nx t [] = nothing_yet
nx t (c ∷ cs) = moved_on (mode c t) (nx t cs)

pub nx_marks : (j t : ℕ) (cs : List Course) → nx t cs ≡ counters (marks j t cs)
nx_marks j t [] = refl
nx_marks j t (c ∷ cs) = ap (moved_on (mode c t)) (nx_marks j t cs) ∙ go (mode c t) (has_let_go c j t) (marks j t cs)
  where
    go : (m : Mode) (g : Bool) (ms : List Mark) → moved_on m (counters ms) ≡ counters (mark m g ∷ ms)
    go Mode.None g ms = refl
    go Mode.Read g ms = ap (λ n. record { read = next_r ms; write = n }) (add-one (next_w ms))
    go Mode.Write g ms = ap (λ n. record { read = n; write = n }) (add-one (next_w ms))

pub nx_amended : (t : ℕ) (e e' : Course) (earlier ns : List Course) → mode e' t ≡ mode e t → nx t (ns ++ (e' ∷ earlier)) ≡ nx t (ns ++ (e ∷ earlier))
nx_amended t e e' earlier [] m = ap (λ k. moved_on k (nx t earlier)) m
nx_amended t e e' earlier (n ∷ ns) m = ap (moved_on (mode n t)) (nx_amended t e e' earlier ns m)

-- an element of such a list
pub get_or_tables : {A : Type 0} (f : ℕ → A) (t : ℕ) (d : A) → t < 8 → get_or (tables f) t d ≡ f t
get_or_tables f zero d h = refl
get_or_tables f (suc zero) d h = refl
get_or_tables f (suc (suc zero)) d h = refl
get_or_tables f (suc (suc (suc zero))) d h = refl
get_or_tables f (suc (suc (suc (suc zero)))) d h = refl
get_or_tables f (suc (suc (suc (suc (suc zero))))) d h = refl
get_or_tables f (suc (suc (suc (suc (suc (suc zero)))))) d h = refl
get_or_tables f (suc (suc (suc (suc (suc (suc (suc zero))))))) d h = refl
get_or_tables f (suc (suc (suc (suc (suc (suc (suc (suc t)))))))) d h = absurd (not-suc-le-zero {n = t} (omega arith))

module _ (o : List Row) (n : ℕ) where
  abbrev pub opened : ℕ → ℕ → Row
  opened t r = get_or o (place t r) blank

  pub record Same (x : Transaction) (e : Course) (earlier : List Course) : Type 0 where
    pub number : x.number ≡ length earlier
    pub course : x.course ≡ e
    pub assigned : x.assigned ≡ tables (λ t. assigned (mode e t) (nx t earlier))
    pub back : (j t r : ℕ) → j < n → t < 8 → r < 64 → (y : Row) → ended (done e j) ≡ false → undone (place t r) (x.replaced j) y ≡ cond (wrote t r (done e j)) (standing (by j) t r (opened t r) earlier) y

  abbrev pub Tied : Transaction → Course → List Course → Type 0
  Tied x e earlier = Same x e earlier ⊎ ((x ≡ finished) × (all_executed n e ≡ true))

  abbrev pub Known : List Transaction → List Course → Type 0
  Known xs [] = Unit {0}
  Known xs (e ∷ earlier) = Tied (find (length earlier) xs) e earlier × Known xs earlier

  pub record Represents (cs : List Course) (s : State) : Type 0 where
    pub valid : Valid cs
    pub replicas : length s.replicas ≡ n
    pub begun : s.counts.begun ≡ length cs
    pub next : s.counts.next ≡ tables (λ t. nx t cs)
    pub version : (j : ℕ) → j < n → (replica s j).version ≡ tables (λ t. let_go (marks j t cs))
    pub sized : (j : ℕ) → j < n → length (replica s j).rows ≡ 512
    pub rows : (j t r : ℕ) → j < n → t < 8 → r < 64 → get_or (replica s j).rows (place t r) blank ≡ standing (by j) t r (opened t r) cs
    pub oldest_first : OldestFirst (length cs) s.unfinished
    pub known : Known s.unfinished cs

  pub known_at : (xs : List Transaction) (ns : List Course) (e : Course) (earlier : List Course) → Known xs (ns ++ (e ∷ earlier)) → Tied (find (length earlier) xs) e earlier
  known_at xs [] e earlier k = k.0
  known_at xs (m ∷ ns) e earlier k = known_at xs ns e earlier k.1

  -- a beginning
  known_begun : (x : Transaction) (xs : List Transaction) (cs : List Course) → length cs ≤ x.number → Known xs cs → Known (xs ++ (x ∷ [])) cs
  known_begun x xs [] h k = tt
  known_begun x xs (c ∷ cs) h k =
      (subst (λ y. Tied y c cs) (sym (find_push_other (length cs) x xs (λ q. omega arith))) k.0, known_begun x xs cs (omega arith) k.1)

  pub begins : (ms : List Mode) (cs : List Course) (s : State) → Represents cs s → Represents (beginning ms ∷ cs) (beginning_after s ms)
  begins ms cs s p =
      let c = beginning ms in
      record {
        valid = (record { sound = λ i h. absurd (not-suc-le-zero h); within = λ j. omega arith; cleared = λ j t h. absurd (false≢true h) }, p.valid);
        replicas = p.replicas;
        begun = omega (arith, p.begun);
        next = ap (all_moved_on ms) p.next;
        version = λ j hj. p.version j hj ∙ ap tables (fun_ext (λ t. none_yet (mode c t) (marks j t cs)));
        sized = p.sized;
        rows = p.rows;
        oldest_first = oldest_first_push (length cs) s.unfinished (newcomer s ms) p.begun p.oldest_first;
        known = (inl (subst (λ x. Same x (beginning ms) cs) (sym (find_push_new (length cs) (newcomer s ms) s.unfinished p.oldest_first.below p.begun)) new_is), known_begun (newcomer s ms) s.unfinished cs (omega (arith, p.begun)) p.known);
      }
    where
      none_yet : (m : Mode) (ms : List Mark) → let_go ms ≡ let_go (mark m false ∷ ms)
      none_yet Mode.None ms = refl
      none_yet Mode.Read ms = refl
      none_yet Mode.Write ms = refl

      new_is : Same (newcomer s ms) (beginning ms) cs
      new_is = record { number = p.begun; course = refl; assigned = ap (all_assigned ms) p.next; back = λ j t r hj ht hr y h. refl }

  -- one transaction changed, in the list of the unfinished and in that of all begun
  known_others : (xs xs' : List Transaction) (cs : List Course) → ((k : ℕ) → k < length cs → find k xs' ≡ find k xs) → Known xs cs → Known xs' cs
  known_others xs xs' [] h k = tt
  known_others xs xs' (c ∷ cs) h k = (subst (λ y. Tied y c cs) (sym (h (length cs) (omega arith))) k.0, known_others xs xs' cs (λ i l. h i (omega arith)) k.1)

  pub length_amended : (e e' : Course) (earlier ns : List Course) → length (ns ++ (e' ∷ earlier)) ≡ length (ns ++ (e ∷ earlier))
  length_amended e e' earlier [] = refl
  length_amended e e' earlier (m ∷ ns) = ap suc (length_amended e e' earlier ns)

  module _ (xs xs' : List Transaction) (e e' : Course) (earlier : List Course) (same : (t : ℕ) → mode e' t ≡ mode e t)
      (others : (k : ℕ) → k ≢ length earlier → find k xs' ≡ find k xs)
      (here : Tied (find (length earlier) xs') e' earlier)
      (keeps : (m : Course) (ns : List Course) → Fine m (ns ++ (e ∷ earlier)) → (j t r : ℕ) → wrote t r (done m j) ≡ true → standing (by j) t r (opened t r) (ns ++ (e' ∷ earlier)) ≡ standing (by j) t r (opened t r) (ns ++ (e ∷ earlier))) where
    same_amended : (x : Transaction) (m : Course) (ns : List Course) → Fine m (ns ++ (e ∷ earlier)) → Same x m (ns ++ (e ∷ earlier)) → Same x m (ns ++ (e' ∷ earlier))
    same_amended x m ns f k =
        record {
          number = k.number ∙ sym (length_amended e e' earlier ns);
          course = k.course;
          assigned = k.assigned ∙ ap tables (fun_ext (λ t. sym (ap (assigned (mode m t)) (nx_amended t e e' earlier ns (same t)))));
          back = λ j t r hj ht hr y h. k.back j t r hj ht hr y h ∙ go j t r y (wrote t r (done m j)) refl;
        }
      where
        go : (j t r : ℕ) (y : Row) (b : Bool) → wrote t r (done m j) ≡ b → cond b (standing (by j) t r (opened t r) (ns ++ (e ∷ earlier))) y ≡ cond b (standing (by j) t r (opened t r) (ns ++ (e' ∷ earlier))) y
        go j t r y true h = sym (keeps m ns f j t r h)
        go j t r y false h = refl

    tied_amended : (x : Transaction) (m : Course) (ns : List Course) → Fine m (ns ++ (e ∷ earlier)) → Tied x m (ns ++ (e ∷ earlier)) → Tied x m (ns ++ (e' ∷ earlier))
    tied_amended x m ns f (inl k) = inl (same_amended x m ns f k)
    tied_amended x m ns f (inr k) = inr k

    pub known_amended : (ns : List Course) → Valid (ns ++ (e ∷ earlier)) → Known xs (ns ++ (e ∷ earlier)) → Known xs' (ns ++ (e' ∷ earlier))
    known_amended [] v k = (here, known_others xs xs' earlier (λ i l. others i (λ q. omega arith)) k.1)
    known_amended (m ∷ ns) v k =
        let q : find (length (ns ++ (e' ∷ earlier))) xs' ≡ find (length (ns ++ (e ∷ earlier))) xs = ap (λ i. find i xs') (length_amended e e' earlier ns) ∙ others (length (ns ++ (e ∷ earlier))) (λ z. omega (arith, length-append ns (e ∷ earlier))) in
        (subst (λ y. Tied y m (ns ++ (e' ∷ earlier))) (sym q) (tied_amended (find (length (ns ++ (e ∷ earlier))) xs) m ns v.0 k.0), known_amended ns v.1 k.1)

-- an operation is asked
module _ (o : List Row) (n : ℕ) (ns : List Course) (e : Course) (earlier : List Course) (s : State) (p : Represents o n (ns ++ (e ∷ earlier)) s) where
  fine : Fine e earlier
  fine = (valid_behind ns (e ∷ earlier) p.valid).0

  x : Transaction
  x = find (length earlier) s.unfinished

  pub tied : (Q : Transaction → Bool) → Q finished ≡ false → Q (find (length earlier) s.unfinished) ≡ true → Same o n (find (length earlier) s.unfinished) e earlier
  tied Q f h = go (known_at o n s.unfinished ns e earlier p.known)
    where
      go : Tied o n (find (length earlier) s.unfinished) e earlier → Same o n (find (length earlier) s.unfinished) e earlier
      go (inl k) = k
      go (inr k) = absurd (false≢true (sym f ∙ ap Q (sym k.0) ∙ h))

  abbrev unended : Transaction → Bool
  unended y = not (ended y.course.asked)

  pub asks_kept : (op : Operation) → unended (find (length earlier) s.unfinished) ≡ true → Allowed (mode (find (length earlier) s.unfinished).course) (find (length earlier) s.unfinished).course.asked op → Represents o n (ns ++ (ask op e ∷ earlier)) (asking s (length earlier) op)
  asks_kept op u a =
      record {
        valid = valid_amended e (ask op e) earlier (λ t. refl) (λ j t h. ap (lets_go t) (same_done j) ∙ h) ns p.valid (fine_ask e earlier fine op (subst (λ c. Allowed (mode c) c.asked op) k.course a));
        replicas = p.replicas;
        begun = p.begun ∙ sym (length_amended o n e (ask op e) earlier ns);
        next = p.next ∙ ap tables (fun_ext (λ t. sym (nx_amended t e (ask op e) earlier ns refl)));
        version = λ j hj. p.version j hj ∙ ap tables (fun_ext (λ t. sym (ap let_go (marks_other j t e (ask op e) earlier ns refl (same_done j)))));
        sized = p.sized;
        rows = λ j t r hj ht hr. p.rows j t r hj ht hr ∙ sym (standing_amended (by j) t r (opened o n t r) e (ask op e) earlier ns (ap (λ ops. leaves t r ops (standing (by j) t r (opened o n t r) earlier)) (same_done j)));
        oldest_first = subst (λ m. OldestFirst m (replace (length earlier) y s.unfinished)) (sym (length_amended o n e (ask op e) earlier ns)) (oldest_first_replace (length earlier) y k.number (length (ns ++ (e ∷ earlier))) s.unfinished p.oldest_first);
        known = known_amended o n s.unfinished (replace (length earlier) y s.unfinished) e (ask op e) earlier (λ t. refl) (λ i h. find_replace_other (length earlier) y k.number i s.unfinished h) (inl (subst (λ z. Same o n z (ask op e) earlier) (sym (find_replace_same (length earlier) y k.number unended refl s.unfinished u)) new)) (λ m ms f j t r h. standing_amended (by j) t r (opened o n t r) e (ask op e) earlier ms (ap (λ ops. leaves t r ops (standing (by j) t r (opened o n t r) earlier)) (same_done j))) ns p.valid p.known;
      }
    where
      k : Same o n (find (length earlier) s.unfinished) e earlier
      k = tied unended refl u

      same_done : (j : ℕ) → done (ask op e) j ≡ done e j
      same_done j = done_ask e earlier fine op j

      y : Transaction
      y = asking_transaction s (length earlier) op

      new : Same o n y (ask op e) earlier
      new =
          record {
            number = k.number;
            course = ap (ask op) k.course;
            assigned = k.assigned;
            back = λ j t r hj ht hr z. subst (λ ops. ended ops ≡ false → undone (place t r) ((find (length earlier) s.unfinished).replaced j) z ≡ cond (wrote t r ops) (standing (by j) t r (opened o n t r) earlier) z) (sym (same_done j)) (k.back j t r hj ht hr z);
          }
