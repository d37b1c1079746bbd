-- The counters of a table stay within the number of transactions begun.
use Rattle.std.proofs.Common.{ℕ, ◌+◌, ◌≤◌, List, ap, ⊎_elim, arith}
use Rattle.std.proofs.lemmas.List.FromFn.{get_or-map-range_with_len}
use Rattle.std.proofs.lemmas.List.{get_or_past}
use Rattle.std.proofs.lemmas.Bool.{cases_lt}
use Rattle.sequencing.specs.declared.mode.Mode.{Mode}
use Rattle.sequencing.specs.declared.sequencer.Next.{Next}
use Rattle.sequencing.specs.Sequencer.{nothing_yet, moved_on, mode_at, next_at, all_moved_on}

one_more : (m : Mode) (n : Next) → (moved_on m n).write ≤ n.write + 1
one_more Mode.None n = omega arith
one_more Mode.Read n = omega arith
one_more Mode.Write n = omega arith

pub counted_more : (modes : List Mode) (next : List Next) (b : ℕ) → ((t : ℕ) → (next_at next t).write ≤ b) → (t : ℕ) → (next_at (all_moved_on modes next) t).write ≤ b + 1
counted_more modes next b h t =
    let f : ℕ → Next = λ k. moved_on (mode_at modes k) (next_at next k) in
    ⊎_elim
    (λ l. omega (arith, ap (λ (n : Next). n.write) (get_or-map-range_with_len f 0 8 t t nothing_yet l (omega arith)), one_more (mode_at modes t) (next_at next t), h t))
    (λ l. omega (arith, ap (λ (n : Next). n.write) (get_or_past (all_moved_on modes next) t nothing_yet l)))
    (cases_lt t 8)
