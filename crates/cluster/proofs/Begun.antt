-- A transaction that begins.
use Rattle.std.proofs.Common.{◌≡◌, ℕ, ◌+◌, Bool, true, false, cond, ◌&&◌, leb, List, [], ◌∷◌, ◌++◌, get_or, refl, ap, ◌∙◌, arith}
use Rattle.std.proofs.lemmas.List.FromFn.{get_or-map-range_with_len}
use Rattle.std.proofs.lemmas.Bool.{and_from, lt-ltb, le-leb}
use Rattle.sequencing.specs.declared.mode.Mode.{Mode}
use Rattle.sequencing.specs.declared.sequencer.Next.{Next}
use Rattle.sequencing.specs.declared.sequencer.Begun.{Begun}
use Rattle.sequencing.specs.Modes.{declares}
use Rattle.sequencing.specs.Sequencer.{next_at, nothing_yet, mode_at, moved_on, all_moved_on}
use Rattle.versioning.specs.Machine.{Transaction}
use Rattle.cluster.specs.Transactions.{begun_as}
use Rattle.cluster.specs.Orderly.{bit}
use Rattle.cluster.specs.Rooms.{rising, holds, holders, Room}

-- the numbers still rise
pub rising_push : (low : ℕ) (xs : List Transaction) (begun : ℕ) (x : Transaction) → rising low xs begun ≡ true → x.number ≡ begun → rising low (xs ++ x ∷ []) (begun + 1) ≡ true
rising_push low [] begun x up e =
    and_from (leb low x.number) (leb (x.number + 1) (begun + 1)) (ap (leb low) e ∙ up) (le-leb (x.number + 1) (begun + 1) (omega arith))
rising_push low (y ∷ ys) begun x up e = go (leb low y.number) up (λ h. rising_push (y.number + 1) ys begun x h e)
  where
    go : (b : Bool) → (b && rising (y.number + 1) ys begun) ≡ true → (rising (y.number + 1) ys begun ≡ true → rising (y.number + 1) (ys ++ x ∷ []) (begun + 1) ≡ true) → (b && rising (y.number + 1) (ys ++ x ∷ []) (begun + 1)) ≡ true
    go true h f = f h
    go false h f = h

-- those that hold a table, with one more
holders_push : (j t : ℕ) (xs : List Transaction) (x : Transaction) → holders j t (xs ++ x ∷ []) ≡ holders j t xs + bit (holds j t x)
holders_push j t [] x = go (holds j t x)
  where
    go : (b : Bool) → cond b (0 + 1) 0 ≡ 0 + bit b
    go true = refl
    go false = refl
holders_push j t (y ∷ ys) x =
    ap (λ n. cond (holds j t y) (n + 1) n) (holders_push j t ys x) ∙ go (holds j t y)
  where
    go : (b : Bool) → cond b ((holders j t ys + bit (holds j t x)) + 1) (holders j t ys + bit (holds j t x)) ≡ cond b (holders j t ys + 1) (holders j t ys) + bit (holds j t x)
    go true = omega arith
    go false = refl

moved_by : (m : Mode) (n : Next) → (moved_on m n).write ≡ n.write + bit (declares m)
moved_by Mode.None n = omega arith
moved_by Mode.Read n = refl
moved_by Mode.Write n = refl

no_more : (b : Bool) → (b && true) ≡ b
no_more true = refl
no_more false = refl

pub room_push : (versions : List (List ℕ)) (next : List Next) (xs : List Transaction) (modes : List Mode) (b : Begun) → Room versions next xs → Room versions (all_moved_on modes next) (xs ++ begun_as modes b ∷ [])
room_push versions next xs modes b room j t l =
    let x : Transaction = begun_as modes b in
    let f : ℕ → Next = λ k. moved_on (mode_at modes k) (next_at next k) in
    let holding : holds j t x ≡ declares (mode_at modes t) = ap (λ (c : Bool). declares (cond c (get_or modes t Mode.None) Mode.None) && true) (lt-ltb t 8 l) ∙ no_more (declares (mode_at modes t)) in
    let moved = ap (λ (n : Next). n.write) (get_or-map-range_with_len f 0 8 t t nothing_yet l (omega arith)) ∙ moved_by (mode_at modes t) (next_at next t) in
    omega (arith, room j t l, holders_push j t xs x, ap bit holding, moved)
