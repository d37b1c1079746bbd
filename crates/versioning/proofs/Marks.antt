-- Counting at one table and one replica: what each transaction is to the table, newest first, and whether it has let go of it.
use Rattle.std.proofs.Common.{◌≡◌, ℕ, suc, ◌<◌, ◌≤◌, Bool, true, false, not, eqb, leb, List, [], ◌∷◌, ◌++◌, sym, refl, ap, ◌∙◌, true≢false, arith}
use mathlib.Core.Bool.{false≢true}
use Rattle.std.proofs.lemmas.Bool.{eq-eqb, ne_eqb, le-leb, lt-leb}
use Rattle.sequencing.specs.declared.mode.Mode.{Mode}
use Rattle.sequencing.specs.declared.sequencer.Next.{Next}
use Rattle.sequencing.specs.Sequencer.{assigned}
use Rattle.versioning.specs.Machine.{admits}

pub data Mark : Type 0 where
  out : Mark
  reader : Bool → Mark
  writer : Bool → Mark

abbrev pub mark : Mode → Bool → Mark
mark Mode.None g = out
mark Mode.Read g = reader g
mark Mode.Write g = writer g

abbrev pub let_go : List Mark → ℕ
let_go [] = 0
let_go (out ∷ ms) = let_go ms
let_go (reader true ∷ ms) = suc (let_go ms)
let_go (reader false ∷ ms) = let_go ms
let_go (writer true ∷ ms) = suc (let_go ms)
let_go (writer false ∷ ms) = let_go ms

abbrev pub next_w : List Mark → ℕ
next_w [] = 0
next_w (out ∷ ms) = next_w ms
next_w (reader g ∷ ms) = suc (next_w ms)
next_w (writer g ∷ ms) = suc (next_w ms)

abbrev pub next_r : List Mark → ℕ
next_r [] = 0
next_r (out ∷ ms) = next_r ms
next_r (reader g ∷ ms) = next_r ms
next_r (writer g ∷ ms) = suc (next_w ms)

-- the counters of the table that these marks give to the next to begin
abbrev pub counters : List Mark → Next
counters ms = record { read = next_r ms; write = next_w ms }

-- a writer, or anyone, has not let go
abbrev pub writer_left : List Mark → Bool
writer_left [] = false
writer_left (out ∷ ms) = writer_left ms
writer_left (reader g ∷ ms) = writer_left ms
writer_left (writer true ∷ ms) = writer_left ms
writer_left (writer false ∷ ms) = true

abbrev pub any_left : List Mark → Bool
any_left [] = false
any_left (out ∷ ms) = any_left ms
any_left (reader true ∷ ms) = any_left ms
any_left (reader false ∷ ms) = true
any_left (writer true ∷ ms) = any_left ms
any_left (writer false ∷ ms) = true

abbrev pub blocks : Mode → List Mark → Bool
blocks Mode.None ms = false
blocks Mode.Read ms = writer_left ms
blocks Mode.Write ms = any_left ms

-- one that let go found no conflict before it
abbrev pub Cleared : Mark → List Mark → Type 0
Cleared out ms = Unit {0}
Cleared (reader true) ms = writer_left ms ≡ false
Cleared (reader false) ms = Unit {0}
Cleared (writer true) ms = any_left ms ≡ false
Cleared (writer false) ms = Unit {0}

abbrev pub Ordered : List Mark → Type 0
Ordered [] = Unit {0}
Ordered (m ∷ ms) = Cleared m ms × Ordered ms

at_most : (ms : List Mark) → let_go ms ≤ next_w ms
at_most [] = omega arith
at_most (out ∷ ms) = at_most ms
at_most (reader true ∷ ms) = omega (arith, at_most ms)
at_most (reader false ∷ ms) = omega (arith, at_most ms)
at_most (writer true ∷ ms) = omega (arith, at_most ms)
at_most (writer false ∷ ms) = omega (arith, at_most ms)

all_gone : (ms : List Mark) → any_left ms ≡ false → let_go ms ≡ next_w ms
all_gone [] h = refl
all_gone (out ∷ ms) h = all_gone ms h
all_gone (reader true ∷ ms) h = ap suc (all_gone ms h)
all_gone (reader false ∷ ms) h = absurd (true≢false h)
all_gone (writer true ∷ ms) h = ap suc (all_gone ms h)
all_gone (writer false ∷ ms) h = absurd (true≢false h)

fewer : (ms : List Mark) → any_left ms ≡ true → let_go ms < next_w ms
fewer [] h = absurd (false≢true h)
fewer (out ∷ ms) h = fewer ms h
fewer (reader true ∷ ms) h = omega (arith, fewer ms h)
fewer (reader false ∷ ms) h = omega (arith, at_most ms)
fewer (writer true ∷ ms) h = omega (arith, fewer ms h)
fewer (writer false ∷ ms) h = omega (arith, at_most ms)

pub some_writer : (ms : List Mark) → writer_left ms ≡ true → any_left ms ≡ true
some_writer [] h = h
some_writer (out ∷ ms) h = some_writer ms h
some_writer (reader true ∷ ms) h = some_writer ms h
some_writer (reader false ∷ ms) h = refl
some_writer (writer true ∷ ms) h = some_writer ms h
some_writer (writer false ∷ ms) h = refl

writer_behind : (ns ms : List Mark) → writer_left ms ≡ true → writer_left (ns ++ ms) ≡ true
writer_behind [] ms h = h
writer_behind (out ∷ ns) ms h = writer_behind ns ms h
writer_behind (reader g ∷ ns) ms h = writer_behind ns ms h
writer_behind (writer true ∷ ns) ms h = writer_behind ns ms h
writer_behind (writer false ∷ ns) ms h = refl

-- behind a writer that has not let go, none has
pub none_since : (ns ms : List Mark) → Ordered (ns ++ ms) → writer_left ms ≡ true → let_go (ns ++ ms) ≡ let_go ms
none_since [] ms o h = refl
none_since (out ∷ ns) ms o h = none_since ns ms o.1 h
none_since (reader true ∷ ns) ms o h = absurd (true≢false (sym (writer_behind ns ms h) ∙ o.0))
none_since (reader false ∷ ns) ms o h = none_since ns ms o.1 h
none_since (writer true ∷ ns) ms o h = absurd (true≢false (sym (some_writer (ns ++ ms) (writer_behind ns ms h)) ∙ o.0))
none_since (writer false ∷ ns) ms o h = none_since ns ms o.1 h

short : (ms : List Mark) → Ordered ms → writer_left ms ≡ true → let_go ms < next_r ms
short [] o h = absurd (false≢true h)
short (out ∷ ms) o h = short ms o.1 h
short (reader true ∷ ms) o h = absurd (true≢false (sym h ∙ o.0))
short (reader false ∷ ms) o h = short ms o.1 h
short (writer true ∷ ms) o h = absurd (true≢false (sym (some_writer ms h) ∙ o.0))
short (writer false ∷ ms) o h = omega (arith, at_most ms)

enough : (ms : List Mark) → Ordered ms → writer_left ms ≡ false → next_r ms ≤ let_go ms
enough [] o h = omega arith
enough (out ∷ ms) o h = enough ms o.1 h
enough (reader true ∷ ms) o h = omega (arith, enough ms o.1 h)
enough (reader false ∷ ms) o h = enough ms o.1 h
enough (writer true ∷ ms) o h = omega (arith, all_gone ms o.0)
enough (writer false ∷ ms) o h = absurd (true≢false h)

grows : (ns ms : List Mark) → let_go ms ≤ let_go (ns ++ ms)
grows [] ms = omega arith
grows (out ∷ ns) ms = grows ns ms
grows (reader true ∷ ns) ms = omega (arith, grows ns ms)
grows (reader false ∷ ns) ms = grows ns ms
grows (writer true ∷ ns) ms = omega (arith, grows ns ms)
grows (writer false ∷ ns) ms = grows ns ms

pub ordered_behind : (ns ms : List Mark) → Ordered (ns ++ ms) → Ordered ms
ordered_behind [] ms o = o
ordered_behind (n ∷ ns) ms o = ordered_behind ns ms o.1

-- the version is the number assigned, or has reached it, exactly when no conflict before has been left
pub admitted : (m : Mode) (ns ms : List Mark) → Ordered (ns ++ (mark m false ∷ ms)) → admits (assigned m (counters ms)) (let_go (ns ++ (mark m false ∷ ms))) ≡ not (blocks m ms)
admitted Mode.None ns ms o = refl
admitted Mode.Read ns ms o = go (writer_left ms) refl
  where
    go : (b : Bool) → writer_left ms ≡ b → leb (next_r ms) (let_go (ns ++ (reader false ∷ ms))) ≡ not b
    go true e = lt-leb (next_r ms) (let_go (ns ++ (reader false ∷ ms))) (omega (arith, none_since ns (reader false ∷ ms) o e, short ms (ordered_behind ns (reader false ∷ ms) o).1 e))
    go false e = le-leb (next_r ms) (let_go (ns ++ (reader false ∷ ms))) (omega (arith, grows ns (reader false ∷ ms), enough ms (ordered_behind ns (reader false ∷ ms) o).1 e))
admitted Mode.Write ns ms o = go (any_left ms) refl
  where
    go : (b : Bool) → any_left ms ≡ b → eqb (let_go (ns ++ (writer false ∷ ms))) (next_w ms) ≡ not b
    go true e = ne_eqb (let_go (ns ++ (writer false ∷ ms))) (next_w ms) (λ q. omega (arith, none_since ns (writer false ∷ ms) o refl, fewer ms e))
    go false e = eq-eqb (let_go (ns ++ (writer false ∷ ms))) (next_w ms) (none_since ns (writer false ∷ ms) o refl ∙ all_gone ms e)
