-- A step: the state after it, and the room that it leaves.
use Rattle.std.proofs.Common.{◌≡◌, ℕ, ◌+◌, ◌<◌, Bool, true, false, cond, not, ◌&&◌, ◌≢◌, List, [], length, get_or, set, sym, refl, ap, ◌∙◌, subst, ⊎_elim, arith}
use Rattle.std.specs.List.{remove as without}
use Rattle.std.proofs.lemmas.List.FromFn.{get_or-map-range_with_len}
use Rattle.std.proofs.lemmas.List.{get_or-set_same, get_or-set_other, map-set}
use Rattle.std.proofs.lemmas.Bool.{cases_eq, ne_eqb}
use Rattle.catalogue.specs.declared.row.Row.{Row}
use Rattle.catalogue.specs.Replicated.{catalogue_of}
use Rattle.sequencing.specs.declared.sequencer.Next.{Next}
use Rattle.sequencing.specs.Modes.{declares, tables}
use Rattle.sequencing.specs.Sequencer.{Counts}
use Rattle.versioning.specs.Words.{Course, advance, mode, done, waits, next, has_table, has_let_go, is_write}
use Rattle.versioning.specs.Machine.{State, Replica, Transaction, finished, rows_after, version_after, all_executed}
use Rattle.cluster.specs.declared.transaction.Transaction.{Transaction as Held}
use Rattle.cluster.specs.Transactions.{course_of, transaction_of, transactions_of, executed_after}
use Rattle.cluster.specs.Orderly.{bit}
use Rattle.cluster.specs.Rooms.{rising, holds, holders, Room}
use Rattle.cluster.specs.View.{paired, stepped_at}
use Rattle.cluster.proofs.AskedAt.{holders_set, rising_set}
use Rattle.cluster.proofs.Facts.{let_go_elsewhere, write_keeps, lets_go_next, others_kept, next_tables}
use Rattle.cluster.proofs.Standing.{many}
use Rattle.cluster.proofs.Without.{shown_without, without_set, holders_without, rising_without}
use Rattle.cluster.proofs.Paired.{paired_at, paired_length, paired_set}

module _ (counts : Counts) (cs : List (List Row)) (vs : List (List ℕ)) (xs : List Transaction) (i j : ℕ) (u : Transaction) (l : j < length cs) (m : j < length vs) (is : get_or xs i finished ≡ u) where
  abbrev state : State
  state = record { counts = counts; replicas = paired cs vs; unfinished = xs }

  -- the parts of the later state, by the transaction, the replica and the number of replicas
  abbrev later : Transaction → Replica → ℕ → State
  later x r n =
      record {
        counts = counts;
        replicas = set (paired cs vs) j (record { rows = rows_after (next x.course j) (x.replaced j) r.rows; version = tables (λ t. version_after x.course j t (get_or r.version t 0)) });
        unfinished = cond (all_executed n (advance j x.course)) (without xs i) (set xs i (executed_after x j r.rows));
      }

  pub stepped_is :
      stepped_at state i j
      ≡ record {
        counts = counts;
        replicas = paired (set cs j (rows_after (next u.course j) (u.replaced j) (catalogue_of cs j))) (set vs j (tables (λ t. version_after u.course j t (get_or (get_or vs j []) t 0))));
        unfinished = cond (all_executed (length cs) (advance j u.course)) (without xs i) (set xs i (executed_after u j (catalogue_of cs j)));
      }
  stepped_is =
      ap (λ (x : Transaction). later x (get_or (paired cs vs) j (record { rows = []; version = [] })) (length (paired cs vs))) is
      ∙ ap (λ (r : Replica). later u r (length (paired cs vs))) (paired_at cs vs j l)
      ∙ ap (later u (record { rows = catalogue_of cs j; version = get_or vs j [] })) (paired_length cs vs)
      ∙ ap (λ (rs : List Replica). record { counts = counts; replicas = rs; unfinished = cond (all_executed (length cs) (advance j u.course)) (without xs i) (set xs i (executed_after u j (catalogue_of cs j))) })
      (paired_set cs vs j (rows_after (next u.course j) (u.replaced j) (catalogue_of cs j)) (tables (λ t. version_after u.course j t (get_or (get_or vs j []) t 0))) m)

  -- and from its parts
  pub stepped_state : (cs' : List (List Row)) (v : List ℕ) (xs' : List Transaction) (b : Bool) → all_executed (length cs) (advance j u.course) ≡ b → cs' ≡ set cs j (rows_after (next u.course j) (u.replaced j) (catalogue_of cs j)) → v ≡ tables (λ t. version_after u.course j t (get_or (get_or vs j []) t 0)) → xs' ≡ cond b (without xs i) (set xs i (executed_after u j (catalogue_of cs j))) → record { counts = counts; replicas = paired cs' (set vs j v); unfinished = xs' } ≡ stepped_at state i j
  stepped_state cs' v xs' b all rows version list =
      ap (λ (c : List (List Row)). record { counts = counts; replicas = paired c (set vs j v); unfinished = xs' }) rows
      ∙ ap (λ (n : List ℕ). record { counts = counts; replicas = paired (set cs j (rows_after (next u.course j) (u.replaced j) (catalogue_of cs j))) (set vs j n); unfinished = xs' }) version
      ∙ ap (λ (us : List Transaction). record { counts = counts; replicas = paired (set cs j (rows_after (next u.course j) (u.replaced j) (catalogue_of cs j))) (set vs j (tables (λ t. version_after u.course j t (get_or (get_or vs j []) t 0)))); unfinished = us })
      (list ∙ ap (λ (x : Bool). cond x (without xs i) (set xs i (executed_after u j (catalogue_of cs j)))) (sym all))
      ∙ sym stepped_is

-- at the replica of a step: what a version gains, the transaction no longer holds
module _ (x : Held) (j t : ℕ) (w : waits (course_of x) j ≡ true) where
  abbrev c : Course
  c = course_of x

  abbrev gains : Bool
  gains = not (is_write (next c j)) && has_table c (done c j) (next c j) t

  abbrev held : Course → Bool
  held d = declares (mode c t) && not (has_let_go d j t)

  same : has_let_go (advance j c) j t ≡ has_let_go c j t → bit (held (advance j c)) + 0 ≡ bit (held c)
  same e = ap (λ (b : Bool). bit (declares (mode c t) && not b) + 0) e ∙ omega arith

  pub turn : bit (held (advance j c)) + bit gains ≡ bit (held c)
  turn = by_write (is_write (next c j)) refl
    where
      undeclared : (d : Bool) → declares (mode c t) ≡ d → d ≡ false → bit (held (advance j c)) + 0 ≡ bit (held c)
      undeclared d e f = ap (λ (b : Bool). bit (b && not (has_let_go (advance j c) j t)) + 0) (e ∙ f) ∙ sym (ap (λ (b : Bool). bit (b && not (has_let_go c j t))) (e ∙ f))

      by_declared : has_table c (done c j) (next c j) t ≡ false → (d : Bool) → declares (mode c t) ≡ d → bit (held (advance j c)) + 0 ≡ bit (held c)
      by_declared h true e = same (others_kept c j t w e h)
      by_declared h false e = undeclared false e refl

      by_table : is_write (next c j) ≡ false → (h : Bool) → has_table c (done c j) (next c j) t ≡ h → bit (held (advance j c)) + bit h ≡ bit (held c)
      by_table n true e =
          let before = next_tables x j t w n e in
          ap (λ (b : Bool). bit (declares (mode c t) && not b) + 1) (lets_go_next c j t w n e)
          ∙ ap (λ (b : Bool). bit (b && false) + 1) before.0
          ∙ sym (ap (λ (b : Bool). bit (declares (mode c t) && not b)) before.1 ∙ ap (λ (b : Bool). bit (b && true)) before.0)
      by_table n false e = by_declared e (declares (mode c t)) refl

      by_write : (b : Bool) → is_write (next c j) ≡ b → bit (held (advance j c)) + bit (not b && has_table c (done c j) (next c j) t) ≡ bit (held c)
      by_write true e = same (write_keeps c j t w e)
      by_write false e = by_table e (has_table c (done c j) (next c j) t) refl

-- elsewhere nothing changes
pub holds_elsewhere : (u : Transaction) (rows : List Row) (j k t : ℕ) → k ≢ j → holds k t (executed_after u j rows) ≡ holds k t u
holds_elsewhere u rows j k t ne = ap (λ (b : Bool). declares (mode u.course t) && not b) (let_go_elsewhere u.course j k t (ne_eqb k j ne))

gained : (b : Bool) (v : ℕ) → cond b (v + 1) v ≡ v + bit b
gained true v = refl
gained false v = omega arith

pub room_stepped : (vs : List (List ℕ)) (next : List Next) (xs : List Transaction) (i j : ℕ) (x : Held) (rows : List Row) → i < length xs → j < length vs → get_or xs i finished ≡ transaction_of x → waits (course_of x) j ≡ true → Room vs next xs → Room (set vs j (tables (λ t. version_after (course_of x) j t (get_or (get_or vs j []) t 0)))) next (set xs i (executed_after (transaction_of x) j rows))
room_stepped vs next xs i j x rows li lj is w room k t lt =
    ⊎_elim
    (λ (e : k ≡ j).
    let version : get_or (get_or vs' k []) t 0 ≡ get_or (get_or vs j []) t 0 + bit (gains x j t w) =
    ap (λ n. get_or (get_or vs' n []) t 0) e ∙ ap (λ (l : List ℕ). get_or l t 0) (get_or-set_same vs j new [] lj) ∙ get_or-map-range_with_len f 0 8 t t 0 lt (omega arith) ∙ gained (gains x j t w) (get_or (get_or vs j []) t 0) in
    let holding = turn x j t w in
    let count : holders k t (set xs i u') ≡ holders j t (set xs i u') = ap (λ n. holders n t (set xs i u')) e in
    omega (arith, room j t lt, holders_set j t xs i u' li, ap (λ (y : Transaction). bit (holds j t y)) is, version, holding, count))
    (λ (ne : k ≢ j).
    let version : get_or (get_or vs' k []) t 0 ≡ get_or (get_or vs k []) t 0 = ap (λ (l : List ℕ). get_or l t 0) (get_or-set_other vs j k new [] ne) in
    let holding : bit (holds k t u') ≡ bit (holds k t (get_or xs i finished)) = ap bit (holds_elsewhere (transaction_of x) rows j k t ne) ∙ sym (ap (λ (y : Transaction). bit (holds k t y)) is) in
    omega (arith, room k t lt, holders_set k t xs i u' li, version, holding))
    (cases_eq k j)
  where
    f : ℕ → ℕ
    f s = version_after (course_of x) j s (get_or (get_or vs j []) s 0)

    new : List ℕ
    new = tables (λ s. version_after (course_of x) j s (get_or (get_or vs j []) s 0))

    vs' : List (List ℕ)
    vs' = set vs j (tables (λ s. version_after (course_of x) j s (get_or (get_or vs j []) s 0)))

    u' : Transaction
    u' = executed_after (transaction_of x) j rows

-- what a step keeps, of a transaction in its place
module _ (vs : List (List ℕ)) (next : List Next) (begun : ℕ) (items : List Held) (i j : ℕ) (x y : Held) (rows : List Row) (v : List ℕ) (li : i < length items) (lj : j < length vs) (is : get_or (transactions_of items) i finished ≡ transaction_of x) (w : waits (course_of x) j ≡ true) (after : transaction_of y ≡ executed_after (transaction_of x) j rows) (gained' : v ≡ tables (λ t. version_after (course_of x) j t (get_or (get_or vs j []) t 0))) where
  pub place_kept : transactions_of (set items i y) ≡ set (transactions_of items) i (executed_after (transaction_of x) j rows)
  place_kept = map-set transaction_of items i y ∙ ap (set (transactions_of items) i) after

  pub ordered_kept : rising 0 (transactions_of items) begun ≡ true → rising 0 (transactions_of (set items i y)) begun ≡ true
  ordered_kept up =
      ap (λ (us : List Transaction). rising 0 us begun) place_kept
      ∙ rising_set 0 (transactions_of items) i begun (executed_after (transaction_of x) j rows) (omega (arith, many items)) (sym (ap (λ (u : Transaction). u.number) is))
      ∙ up

  pub room_kept : Room vs next (transactions_of items) → Room (set vs j v) next (transactions_of (set items i y))
  room_kept room =
      subst (λ (us : List Transaction). Room (set vs j v) next us) (sym place_kept)
      (subst (λ (n : List ℕ). Room (set vs j n) next (set (transactions_of items) i (executed_after (transaction_of x) j rows))) (sym gained')
      (room_stepped vs next (transactions_of items) i j x rows (omega (arith, many items)) lj is w room))

  -- and of one that gives up its place
  gone : transactions_of (without (set items i y) i) ≡ without (transactions_of (set items i y)) i
  gone = shown_without (set items i y) i

  pub ordered_gone : rising 0 (transactions_of items) begun ≡ true → rising 0 (transactions_of (without (set items i y) i)) begun ≡ true
  ordered_gone up = ap (λ (us : List Transaction). rising 0 us begun) gone ∙ rising_without 0 (transactions_of (set items i y)) begun i (ordered_kept up)

  pub room_gone : Room vs next (transactions_of items) → Room (set vs j v) next (transactions_of (without (set items i y) i))
  room_gone room k t l = omega (arith, room_kept room k t l, ap (holders k t) gone, holders_without k t (transactions_of (set items i y)) i)

  pub place_gone : transactions_of (without (set items i y) i) ≡ without (transactions_of items) i
  place_gone = gone ∙ ap (λ (us : List Transaction). without us i) place_kept ∙ without_set (transactions_of items) i (executed_after (transaction_of x) j rows)
