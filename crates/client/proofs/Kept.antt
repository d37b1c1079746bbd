-- A good ticket stays good: the transaction is found among the unfinished, and only its own end closes it.
use Rattle.std.proofs.Common.{◌≡◌, ℕ, ◌+◌, ◌<◌, ◌≤◌, Bool, true, false, cond, not, ◌||◌, eqb, leb, List, [], ◌∷◌, ◌++◌, length, Some, None, Ok, Err, Option, Result, IfOk, sym, refl, ap, ◌∙◌, subst, arith}
use Rattle.std.proofs.lemmas.Bool.{eqb-true, eq-eqb, ne_eqb, leb-true, not-true, not_from_false, false≢true, and_parts, cond_both}
use Rattle.catalogue.specs.declared.row.Row.{Row}
use Rattle.catalogue.specs.declared.refusal.Refusal.{Refusal}
use Rattle.catalogue.specs.Refusals.{first, told}
use Rattle.sequencing.specs.declared.mode.Mode.{Mode}
use Rattle.sequencing.specs.declared.call.Call.{Call}
use Rattle.versioning.specs.declared.operation.Operation.{Operation}
use Rattle.versioning.specs.declared.request.Request.{Request}
use Rattle.versioning.specs.Words.{is_end, ended, advance}
use Rattle.versioning.specs.Machine.{State, Transaction, find, replace, remove, transaction, course, asking_transaction, asking, kept_if_refused, begin_checks, begin_reply, begin_after, newcomer, beginning_after, write_checks, release_checks, commit_checks, abort_checks, step_checks, stepping, stepped_transaction, all_executed}
use Rattle.versioning.proofs.Unfinished.{find_remove_other}
use Rattle.cluster.specs.Rooms.{rising}
use Rattle.client.specs.Tickets.{Good, StaysGood}

-- it is open, which what stands for a finished one is not
abbrev is_open : Transaction → Bool
is_open x = not (ended x.course.asked)

-- the numbers that rise stay below the count, so that the newest is found
low_below : (low : ℕ) (xs : List Transaction) (begun : ℕ) → rising low xs begun ≡ true → low ≤ begun
low_below low [] begun up = leb-true low begun up
low_below low (x ∷ xs) begun up =
    let parts = and_parts (leb low x.number) (rising (x.number + 1) xs begun) up in
    omega (arith, leb-true low x.number parts.0, low_below (x.number + 1) xs begun parts.1)

find_newest : (low : ℕ) (xs : List Transaction) (x : Transaction) → rising low xs x.number ≡ true → find x.number (xs ++ (x ∷ [])) ≡ x
find_newest low [] x up = ap (λ b. cond b x (find x.number [])) (eq-eqb x.number x.number refl)
find_newest low (y ∷ ys) x up =
    let parts = and_parts (leb low y.number) (rising (y.number + 1) ys x.number) up in
    let above : y.number + 1 ≤ x.number = low_below (y.number + 1) ys x.number parts.1 in
    ap (λ b. cond b y (find x.number (ys ++ (x ∷ [])))) (ne_eqb y.number x.number (λ e. omega (arith, above, e))) ∙ find_newest (y.number + 1) ys x parts.1

module _ (k : ℕ) where
  -- one more at the end
  find_push : (xs : List Transaction) (y : Transaction) → is_open (find k xs) ≡ true → find k (xs ++ (y ∷ [])) ≡ find k xs
  find_push [] y h = absurd (false≢true h)
  find_push (x ∷ xs) y h = go (eqb x.number k) h (find_push xs y)
    where
      go : (b : Bool) → is_open (cond b x (find k xs)) ≡ true → (is_open (find k xs) ≡ true → find k (xs ++ (y ∷ [])) ≡ find k xs) → cond b x (find k (xs ++ (y ∷ []))) ≡ cond b x (find k xs)
      go true q ih = refl
      go false q ih = ih q

  -- the transaction m replaced by another with its number, an open one where it is k itself
  open_replace : (m : ℕ) (y : Transaction) → (m ≡ k → is_open y ≡ true) → (xs : List Transaction) → y.number ≡ (find m xs).number → is_open (find k xs) ≡ true → is_open (find k (replace m y xs)) ≡ true
  open_replace m y own [] same h = h
  open_replace m y own (x ∷ xs) same h = go (eqb x.number m) refl same (open_replace m y own xs)
    where
      here : (b : Bool) → eqb x.number k ≡ b → x.number ≡ m → is_open (cond b x (find k xs)) ≡ true → is_open (cond b y (find k xs)) ≡ true
      here true q e p = own (sym e ∙ eqb-true x.number k q)
      here false q e p = p

      behind : (b : Bool) → is_open (cond b x (find k xs)) ≡ true → (is_open (find k xs) ≡ true → is_open (find k (replace m y xs)) ≡ true) → is_open (cond b x (find k (replace m y xs))) ≡ true
      behind true p ih = p
      behind false p ih = ih p

      go : (b : Bool) → eqb x.number m ≡ b → y.number ≡ (cond b x (find m xs)).number → (y.number ≡ (find m xs).number → is_open (find k xs) ≡ true → is_open (find k (replace m y xs)) ≡ true) → is_open (find k (cond b (y ∷ xs) (x ∷ replace m y xs))) ≡ true
      go true q e ih =
          subst (λ n. is_open (cond (eqb n k) y (find k xs)) ≡ true) (sym e) (here (eqb x.number k) refl (eqb-true x.number m q) h)
      go false q e ih = behind (eqb x.number k) h (ih e)

-- an operation that is no end leaves it open
ended_push : (ops : List Operation) (op : Operation) → is_end op ≡ false → ended (ops ++ (op ∷ [])) ≡ ended ops
ended_push [] op e = ap (λ b. b || false) e
ended_push (x ∷ xs) op e = ap (λ b. is_end x || b) (ended_push xs op e)

module _ (s : State) (k : ℕ) (good : Good s k) where
  opened : is_open (find k s.unfinished) ≡ true
  opened = not_from_false (ended (course s k).asked) good.still_open

  -- good in a state that counts no fewer, where the transaction is open
  still_good : (later : State) → k < later.counts.begun → is_open (find k later.unfinished) ≡ true → Good later k
  still_good later b o = record { begun = b; still_open = not-true (ended (course later k).asked) o }

  kept : (n : ℕ) (later : State) → Good later k → Good (kept_if_refused n s later) k
  kept n later g = cond_both (eqb n 0) later s (λ t. Good t k) (λ e. g) (λ e. good)

  asked_good : (m : ℕ) (op : Operation) → (m ≡ k → is_end op ≡ false) → Good (asking s m op) k
  asked_good m op h =
      still_good (asking s m op) good.begun (
      open_replace k m (asking_transaction s m op) (λ e. not_from_false (ended ((course s m).asked ++ (op ∷ []))) (ended_push (course s m).asked op (h e) ∙ ap (λ n. ended (course s n).asked) e ∙ good.still_open)) s.unfinished refl opened
      )

  begun_good : (modes : List Mode) → Good (beginning_after s modes) k
  begun_good modes =
      still_good (beginning_after s modes) (omega (arith, good.begun)) (ap is_open (find_push k s.unfinished _ opened) ∙ opened)

  stepped_good : (m j : ℕ) → Good (stepping s m j) k
  stepped_good m j =
      still_good (stepping s m j) good.begun (
      cond_both (all_executed (length s.replicas) (advance j (course s m))) (remove m s.unfinished) (replace m (stepped_transaction s m j) s.unfinished) (λ xs. is_open (find k xs) ≡ true)
      (λ e. ap is_open (find_remove_other m k s.unfinished (λ q. absurd (false≢true (sym good.still_open ∙ ap (λ n. ended (course s n).asked) q ∙ (and_parts (ended (course s m).asked) _ e).0)))) ∙ opened)
      (λ e. open_replace k m (stepped_transaction s m j) (λ q. ap (λ n. is_open (transaction s n)) q ∙ opened) s.unfinished refl opened)
      )

module _ {V K : Type 0} (pack : V → Row) (unpack : K → Row → Option V) where
  pub stays_good : StaysGood pack unpack
  stays_good s k (Request.Call (Call.Begin modes)) g h = kept s k g (first (begin_checks s modes)) (beginning_after s modes) (begun_good s k g modes)
  stays_good s k (Request.Call (Call.Write m t r v c)) g h = kept s k g (first (write_checks s m t r c)) _ (asked_good s k g m (Operation.Write t r v c) (λ e. refl))
  stays_good s k (Request.Call (Call.Read m t r)) g h = g
  stays_good s k (Request.Call (Call.Release m t)) g h = kept s k g (first (release_checks s m t)) _ (asked_good s k g m (Operation.Release t) (λ e. refl))
  stays_good s k (Request.Call (Call.Commit m)) g h = kept s k g (first (commit_checks s m)) _ (asked_good s k g m Operation.Commit (λ e. absurd (h e)))
  stays_good s k (Request.Call (Call.Abort m)) g h = kept s k g (first (abort_checks s m)) _ (asked_good s k g m Operation.Abort (λ e. absurd (h e)))
  stays_good s k (Request.Call (Call.Step m j)) g h = kept s k g (first (step_checks s m j)) _ (stepped_good s k g m j)
  stays_good s k (Request.WriteAs m t r v c) g h = kept s k g (first (write_checks s m t r c)) _ (asked_good s k g m (Operation.Write t r (pack v) c) (λ e. refl))
  stays_good s k (Request.ReadAs m t r kind) g h = g

-- an accepted begin's number is that of a good ticket
newest_good : (s : State) (modes : List Mode) (n : ℕ) (later : State) → rising 0 s.unfinished s.counts.begun ≡ true → (0, Some n) ≡ begin_reply s modes → later ≡ begin_after s modes → Good later n
newest_good s modes n later up answer left = go (first (begin_checks s modes)) (sym (ap (λ a. a.0) answer)) (ap (λ a. a.1) answer) left
  where
    new : Good (beginning_after s modes) s.counts.begun
    new =
        record { begun = omega arith; still_open = ap (λ x. ended x.course.asked) (find_newest 0 s.unfinished (newcomer s modes) up) }

    taken : Some n ≡ Some s.counts.begun → later ≡ beginning_after s modes → Good later n
    taken e l =
        let same : n ≡ s.counts.begun = cc in
        subst (λ t. Good t n) (sym l) (subst (Good (beginning_after s modes)) (sym same) new)

    go : (x : ℕ) → x ≡ 0 → Some n ≡ cond (eqb x 0) (Some s.counts.begun) None → later ≡ cond (eqb x 0) (beginning_after s modes) s → Good later n
    go x z e l =
        taken (subst (λ m. Some n ≡ cond (eqb m 0) (Some s.counts.begun) None) z e) (subst (λ m. later ≡ cond (eqb m 0) (beginning_after s modes) s) z l)

-- whatever a begin answers
pub begin_good : (s : State) (modes : List Mode) (r : Result ℕ Refusal) (later : State) → rising 0 s.unfinished s.counts.begun ≡ true → told r ≡ begin_reply s modes → later ≡ begin_after s modes → IfOk r (λ n. Good later n)
begin_good s modes (Ok n) later up answer left = newest_good s modes n later up answer left
begin_good s modes (Err e) later up answer left = tt
