-- Lent memory: the rows that it holds, of which the first 512 are a catalogue.
use Rattle.std.specs.Prelude.{◌≡◌, ℕ, ◌≤◌, List, [], ◌∷◌, length, take, drop, Ok, Err, vec_items, Result, Vec, nat_lt}
use Rattle.std.proofs.Common.{arith, length-take}
use Rattle.std.specs.Borrow.{MutBor}
use Rattle.std.specs.declared.alloc.Global.{Global}
use Rattle.catalogue.specs.declared.refusal.Refusal.{Refusal}
use Rattle.catalogue.specs.declared.row.Row.{Row}
use Rattle.catalogue.specs.Refusals.{number, first}
use Rattle.catalogue.specs.Rows.{Lent}
use Rattle.stores.specs.declared.memory.Memory.{Memory}

-- All the rows of a memory.
abbrev pub held : Memory → List Row
held m = vec_items m.rows

-- The catalogue in it: its first 512 rows.
abbrev pub image : Memory → List Row
image m = take 512 (held m)

pub image_full : (m : Memory) → length (image m) ≡ 512
image_full m =
    let long : 512 ≤ length (held m) = omega (arith, m.long, m.rows.ok.0) in
    simp length-take (omega arith)

-- The rows in it that no store touches: those past the 512th.
abbrev pub beyond : Memory → List Row
beyond m = drop 512 (held m)

-- What is lent by a reference to a memory: the memory, by the reference's ghost name, and those rows.
abbrev pub lent_by : MutBor Memory → Lent
lent_by m = record { memory = m.ghost_name; beyond = beyond m.now }

-- What making a memory tells: 0 and the rows that it holds, or the refusal's number and the rows handed back.
abbrev pub memory_told : Result Memory (Refusal × Vec Row Global) → ℕ × List Row
memory_told (Ok m) = (0, held m)
memory_told (Err e) = (number e.0, vec_items e.1)

-- Fewer than 512 rows are refused.
abbrev pub memory_reply : List Row → ℕ × List Row
memory_reply rows = (first ((nat_lt (length rows) 512, Refusal.MemoryTooShort) ∷ []), rows)
