-- One operation executed at a replica: what it does to the version and to the rows there.
use Rattle.std.proofs.Common.{◌≡◌, ℕ, ◌+◌, Bool, true, false, cond, not, ◌&&◌, ◌||◌, eqb, List, [], ◌∷◌, ◌++◌, sym, refl, ap, ◌∙◌, subst, arith}
use mathlib.Core.Bool.{false≢true}
use Rattle.std.proofs.lemmas.List.Sums.{fold_push}
use Rattle.std.proofs.lemmas.Bool.{eqb-true, or_parts, or_from, and_parts}
use Rattle.catalogue.specs.declared.row.Row.{Row}
use Rattle.sequencing.specs.declared.mode.Mode.{Mode}
use Rattle.versioning.specs.declared.operation.Operation.{Operation}
use Rattle.catalogue.specs.Rows.{place}
use Rattle.sequencing.specs.Modes.{some, declares}
use Rattle.versioning.specs.Words.{writes, is_end, is_abort, is_write, is_write_at, released, ended, aborted, lets_go, Course, mode, done, has_let_go, waits, next, has_table, advance}
use Rattle.versioning.proofs.Tests.{or_false, or_true}
use Rattle.versioning.proofs.Marks.{Mark, mark, out, reader, writer, let_go}
use Rattle.versioning.proofs.Ops.{some_push, lets_go_push, Allowed, Sound, sound_take, quiet, put, puts, leaves, leaves_other, leaves_push}
use Rattle.versioning.proofs.Valid.{marks, marks_append, Fine, Valid, some_weaker, next_allowed, done_run, valid_behind}
use Rattle.versioning.proofs.Cells.{standing, by, standing_amended, quiet_since}

-- the version
let_go_append : (ns ms : List Mark) → let_go (ns ++ ms) ≡ let_go ns + let_go ms
let_go_append [] ms = omega arith
let_go_append (out ∷ ns) ms = let_go_append ns ms
let_go_append (reader true ∷ ns) ms = omega (arith, let_go_append ns ms)
let_go_append (reader false ∷ ns) ms = let_go_append ns ms
let_go_append (writer true ∷ ns) ms = omega (arith, let_go_append ns ms)
let_go_append (writer false ∷ ns) ms = let_go_append ns ms

one_more : (m : Mode) (ms : List Mark) → declares m ≡ true → let_go (mark m true ∷ ms) ≡ let_go (mark m false ∷ ms) + 1
one_more Mode.None ms h = absurd (false≢true h)
one_more Mode.Read ms h = omega arith
one_more Mode.Write ms h = omega arith

pub declares_if : (m : Mode) → writes m ≡ true → declares m ≡ true
declares_if Mode.None h = h
declares_if Mode.Read h = refl
declares_if Mode.Write h = refl

-- an end lets go of each table that is declared and not released
ends_count : (m : Mode) (b d : Bool) (ms : List Mark) → d ≡ false → let_go (mark m true ∷ ms) ≡ cond (declares m && not b) (let_go (mark m (b || d) ∷ ms) + 1) (let_go (mark m (b || d) ∷ ms))
ends_count Mode.None b d ms h = refl
ends_count Mode.Read true d ms h = refl
ends_count Mode.Read false d ms h = one_more Mode.Read ms refl ∙ ap (λ b. let_go (mark Mode.Read b ∷ ms) + 1) (sym h)
ends_count Mode.Write true d ms h = refl
ends_count Mode.Write false d ms h = one_more Mode.Write ms refl ∙ ap (λ b. let_go (mark Mode.Write b ∷ ms) + 1) (sym h)

head_count : (c : Course) (before : List Operation) (op : Operation) (t : ℕ) (ms : List Mark) → Allowed (mode c) before op →
    let_go (mark (mode c t) (lets_go t (before ++ (op ∷ []))) ∷ ms) ≡ cond (not (is_write op) && has_table c before op t) (let_go (mark (mode c t) (lets_go t before) ∷ ms) + 1) (let_go (mark (mode c t) (lets_go t before) ∷ ms))
head_count c before (Operation.Write u r v k) t ms a = ap (λ b. let_go (mark (mode c t) b ∷ ms)) (lets_go_push t before (Operation.Write u r v k) ∙ or_false (lets_go t before))
head_count c before (Operation.Release u) t ms a =
    ap (λ b. let_go (mark (mode c t) b ∷ ms)) (lets_go_push t before (Operation.Release u)) ∙ go (eqb t u) refl
  where
    go : (b : Bool) → eqb t u ≡ b → let_go (mark (mode c t) (lets_go t before || (b || false)) ∷ ms) ≡ cond b (let_go (mark (mode c t) (lets_go t before) ∷ ms) + 1) (let_go (mark (mode c t) (lets_go t before) ∷ ms))
    go true e =
        let same : t ≡ u = eqb-true t u e in
        let g : lets_go t before ≡ false = rw same a.1 in
        let d : declares (mode c t) ≡ true = rw same a.0 in
        ap (λ b. let_go (mark (mode c t) (b || true) ∷ ms)) g ∙ one_more (mode c t) ms d ∙ ap (λ b. let_go (mark (mode c t) b ∷ ms) + 1) (sym g)
    go false e = ap (λ b. let_go (mark (mode c t) b ∷ ms)) (or_false (lets_go t before))
head_count c before Operation.Commit t ms a = ap (λ b. let_go (mark (mode c t) b ∷ ms)) (lets_go_push t before Operation.Commit ∙ or_true (lets_go t before)) ∙ ends_count (mode c t) (released t before) (ended before) ms a
head_count c before Operation.Abort t ms a = ap (λ b. let_go (mark (mode c t) b ∷ ms)) (lets_go_push t before Operation.Abort ∙ or_true (lets_go t before)) ∙ ends_count (mode c t) (released t before) (ended before) ms a.0

pub marks_other : (i t : ℕ) (e e' : Course) (earlier ns : List Course) → mode e' t ≡ mode e t → done e' i ≡ done e i → marks i t (ns ++ (e' ∷ earlier)) ≡ marks i t (ns ++ (e ∷ earlier))
marks_other i t e e' earlier [] m d = ap (λ k. mark k (has_let_go e' i t) ∷ marks i t earlier) m ∙ ap (λ ops. mark (mode e t) (lets_go t ops) ∷ marks i t earlier) d
marks_other i t e e' earlier (n ∷ ns) m d = ap (λ ms. mark (mode n t) (has_let_go n i t) ∷ ms) (marks_other i t e e' earlier ns m d)

pub version_run : (j t : ℕ) (e : Course) (earlier ns : List Course) → Fine e earlier → waits e j ≡ true → let_go (marks j t (ns ++ (advance j e ∷ earlier))) ≡ cond (not (is_write (next e j)) && has_table e (done e j) (next e j) t) (let_go (marks j t (ns ++ (e ∷ earlier))) + 1) (let_go (marks j t (ns ++ (e ∷ earlier))))
version_run j t e earlier ns f w =
    let p : (c : Course) → let_go (marks j t (ns ++ (c ∷ earlier))) ≡ let_go (marks j t ns) + let_go (marks j t (c ∷ earlier)) = λ c. ap let_go (marks_append j t ns (c ∷ earlier)) ∙ let_go_append (marks j t ns) (marks j t (c ∷ earlier)) in
    let h : let_go (marks j t (advance j e ∷ earlier)) ≡ cond (not (is_write (next e j)) && has_table e (done e j) (next e j) t) (let_go (marks j t (e ∷ earlier)) + 1) (let_go (marks j t (e ∷ earlier))) = ap (λ ops. let_go (mark (mode e t) (lets_go t ops) ∷ marks j t earlier)) (done_run e earlier f j w) ∙ head_count e (done e j) (next e j) t (marks j t earlier) (next_allowed e earlier j f w) in
    p (advance j e) ∙ ap (λ n. let_go (marks j t ns) + n) h ∙ go (not (is_write (next e j)) && has_table e (done e j) (next e j) t) (let_go (marks j t ns)) (let_go (marks j t (e ∷ earlier))) (let_go (marks j t (ns ++ (e ∷ earlier)))) (p e)
  where
    go : (b : Bool) (x y z : ℕ) → z ≡ x + y → x + cond b (y + 1) y ≡ cond b (z + 1) z
    go true x y z h = omega arith
    go false x y z h = sym h

-- the rows
abbrev pub is_write_cell : ℕ → ℕ → Operation → Bool
is_write_cell t r (Operation.Write u q v c) = eqb t u && eqb r q
is_write_cell t r (Operation.Release u) = false
is_write_cell t r Operation.Commit = false
is_write_cell t r Operation.Abort = false

abbrev pub wrote : ℕ → ℕ → List Operation → Bool
wrote t r ops = some (is_write_cell t r) ops

abbrev pub undone : ℕ → List (ℕ × Row) → Row → Row
undone p [] y = y
undone p (x ∷ xs) y = undone p xs (cond (eqb p x.0) x.1 y)

put_cell : (t r : ℕ) (x : Row) (op : Operation) → is_write_cell t r op ≡ false → put t r x op ≡ x
put_cell t r x (Operation.Write u q v c) h = ap (λ b. cond b v x) h
put_cell t r x (Operation.Release u) h = refl
put_cell t r x Operation.Commit h = refl
put_cell t r x Operation.Abort h = refl

pub puts_cell : (t r : ℕ) (ops : List Operation) (x : Row) → wrote t r ops ≡ false → puts t r ops x ≡ x
puts_cell t r [] x h = refl
puts_cell t r (op ∷ ops) x h =
    let p = or_parts (is_write_cell t r op) (wrote t r ops) h in
    ap (puts t r ops) (put_cell t r x op p.0) ∙ puts_cell t r ops x p.1

cell_table : (t r : ℕ) (op : Operation) → is_write_cell t r op ≡ true → is_write_at t op ≡ true
cell_table t r (Operation.Write u q v c) h = (and_parts (eqb t u) (eqb r q) h).0
cell_table t r (Operation.Release u) h = h
cell_table t r Operation.Commit h = h
cell_table t r Operation.Abort h = h

pub wrote_table : (t r : ℕ) (ops : List Operation) → wrote t r ops ≡ true → some (is_write_at t) ops ≡ true
wrote_table t r ops h = some_weaker (is_write_cell t r) (is_write_at t) (cell_table t r) ops h

abort_ends : (op : Operation) → is_abort op ≡ true → is_end op ≡ true
abort_ends (Operation.Write u q v c) h = h
abort_ends (Operation.Release u) h = h
abort_ends Operation.Commit h = refl
abort_ends Operation.Abort h = h

-- what has not ended has not aborted
pub not_aborted : (ops : List Operation) → ended ops ≡ false → aborted ops ≡ false
not_aborted ops h = go (aborted ops) refl
  where
    go : (b : Bool) → aborted ops ≡ b → b ≡ false
    go true e = sym (some_weaker is_abort is_end abort_ends ops e) ∙ h
    go false e = refl

abbrev pub cell_after : ℕ → ℕ → Operation → List (ℕ × Row) → Row → Row
cell_after t r (Operation.Write u q v c) repl y = cond (eqb t u && eqb r q) v y
cell_after t r (Operation.Release u) repl y = y
cell_after t r Operation.Commit repl y = y
cell_after t r Operation.Abort repl y = undone (place t r) repl y

module _ (j t r : ℕ) (x : Row) (e : Course) (earlier ns : List Course) (v : Valid (ns ++ (e ∷ earlier))) (w : waits e j ≡ true) where
  base : Row
  base = standing (by j) t r x earlier

  fine : Fine e earlier
  fine = (valid_behind ns (e ∷ earlier) v).0

  sound_done : Sound (mode e) (done e j)
  sound_done = sound_take (mode e) e.asked (e.executed j) (fine.within j) fine.sound

  leaves_run : leaves t r (done (advance j e) j) (standing (by j) t r x earlier) ≡ leaves t r (done e j ++ (next e j ∷ [])) (standing (by j) t r x earlier)
  leaves_run = ap (λ ops. leaves t r ops (standing (by j) t r x earlier)) (done_run e earlier fine j w)

  unended : (u : ℕ) → lets_go u (done e j) ≡ false → aborted (done e j) ≡ false
  unended u h = not_aborted (done e j) (or_parts (released u (done e j)) (ended (done e j)) h).1

  pub rows_run : (op : Operation) (repl : List (ℕ × Row)) → next e j ≡ op →
      ((y : Row) → ended (done e j) ≡ false → undone (place t r) repl y ≡ cond (wrote t r (done e j)) (standing (by j) t r x earlier) y) →
      standing (by j) t r x (ns ++ (advance j e ∷ earlier)) ≡ cell_after t r op repl (standing (by j) t r x (ns ++ (e ∷ earlier)))
  rows_run (Operation.Write u q val c) repl n un = go (eqb t u && eqb r q) refl
    where
      a : Allowed (mode e) (done e j) (Operation.Write u q val c)
      a = subst (Allowed (mode e) (done e j)) n (next_allowed e earlier j fine w)

      b₀ : Row
      b₀ = standing (by j) t r x earlier

      run_is : leaves t r (done (advance j e) j) b₀ ≡ put t r (puts t r (done e j) b₀) (Operation.Write u q val c)
      run_is =
          leaves_run ∙ ap (λ op. leaves t r (done e j ++ (op ∷ [])) b₀) n ∙ ap (λ b. cond b b₀ (puts t r (done e j ++ (Operation.Write u q val c ∷ [])) b₀)) (some_push is_abort (done e j) (Operation.Write u q val c) ∙ or_false (aborted (done e j)) ∙ unended u a.1) ∙ fold_push (put t r) b₀ (done e j) (Operation.Write u q val c)

      was : leaves t r (done e j) b₀ ≡ puts t r (done e j) b₀
      was = ap (λ b. cond b b₀ (puts t r (done e j) b₀)) (unended u a.1)

      go : (b : Bool) → (eqb t u && eqb r q) ≡ b → standing (by j) t r x (ns ++ (advance j e ∷ earlier)) ≡ cond b val (standing (by j) t r x (ns ++ (e ∷ earlier)))
      go true h =
          let same : t ≡ u = eqb-true t u (and_parts (eqb t u) (eqb r q) h).0 in
          quiet_since j t r x e (advance j e) earlier ns v (declares_if (mode e t) (rw same a.0)) (rw same a.1) ∙ run_is ∙ ap (λ b. cond b val (puts t r (done e j) b₀)) h
      go false h = standing_amended (by j) t r x e (advance j e) earlier ns (run_is ∙ ap (λ b. cond b val (puts t r (done e j) b₀)) h ∙ sym was)
  rows_run (Operation.Release u) repl n un =
      standing_amended (by j) t r x e (advance j e) earlier ns (leaves_run ∙ ap (λ op. leaves t r (done e j ++ (op ∷ [])) (standing (by j) t r x earlier)) n ∙ leaves_push t r (done e j) (Operation.Release u) (standing (by j) t r x earlier) refl refl)
  rows_run Operation.Commit repl n un =
      standing_amended (by j) t r x e (advance j e) earlier ns (leaves_run ∙ ap (λ op. leaves t r (done e j ++ (op ∷ [])) (standing (by j) t r x earlier)) n ∙ leaves_push t r (done e j) Operation.Commit (standing (by j) t r x earlier) refl refl)
  rows_run Operation.Abort repl n un = go (some (is_write_at t) (done e j)) refl
    where
      a : Allowed (mode e) (done e j) Operation.Abort
      a = subst (Allowed (mode e) (done e j)) n (next_allowed e earlier j fine w)

      b₀ : Row
      b₀ = standing (by j) t r x earlier

      run_is : leaves t r (done (advance j e) j) b₀ ≡ b₀
      run_is = leaves_run ∙ ap (λ op. leaves t r (done e j ++ (op ∷ [])) b₀) n ∙ ap (λ b. cond b b₀ (puts t r (done e j ++ (Operation.Abort ∷ [])) b₀)) (some_push is_abort (done e j) Operation.Abort ∙ or_true (aborted (done e j)))

      was : leaves t r (done e j) b₀ ≡ puts t r (done e j) b₀
      was = ap (λ b. cond b b₀ (puts t r (done e j) b₀)) (not_aborted (done e j) a.0)

      back : (b : Bool) → wrote t r (done e j) ≡ b → b₀ ≡ cond b b₀ (puts t r (done e j) b₀)
      back true h = refl
      back false h = sym (puts_cell t r (done e j) b₀ h)

      written_mode : some (is_write_at t) (done e j) ≡ true → (b : Bool) → writes (mode e t) ≡ b → b ≡ true
      written_mode h true k = refl
      written_mode h false k = sym (quiet (mode e) (done e j) t sound_done k) ∙ h

      none_wrote : some (is_write_at t) (done e j) ≡ false → (b : Bool) → wrote t r (done e j) ≡ b → b ≡ false
      none_wrote h true k = sym (wrote_table t r (done e j) k) ∙ h
      none_wrote h false k = refl

      go : (b : Bool) → some (is_write_at t) (done e j) ≡ b → standing (by j) t r x (ns ++ (advance j e ∷ earlier)) ≡ undone (place t r) repl (standing (by j) t r x (ns ++ (e ∷ earlier)))
      go true h =
          let k : writes (mode e t) ≡ true = written_mode h (writes (mode e t)) refl in
          let d = declares_if (mode e t) k in
          let g : has_let_go e j t ≡ false = or_from (released t (done e j)) (ended (done e j)) (a.1 t k) a.0 in
          quiet_since j t r x e (advance j e) earlier ns v d g ∙ run_is ∙ back (wrote t r (done e j)) refl ∙ ap (cond (wrote t r (done e j)) b₀) (sym (quiet_since j t r x e e earlier ns v d g ∙ was)) ∙ sym (un (standing (by j) t r x (ns ++ (e ∷ earlier))) a.0)
      go false h =
          standing_amended (by j) t r x e (advance j e) earlier ns (run_is ∙ sym (leaves_other t r (done e j) b₀ h)) ∙ sym (un (standing (by j) t r x (ns ++ (e ∷ earlier))) a.0 ∙ ap (λ b. cond b b₀ (standing (by j) t r x (ns ++ (e ∷ earlier)))) (none_wrote h (wrote t r (done e j)) refl))
