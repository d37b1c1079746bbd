-- Kinds of row: what a typed reading answers, and the two kinds that are built in.
use Rattle.std.specs.Prelude.{ℕ, ◌+◌, ◌*◌, ◌/◌, ◌%◌, ◌^◌, ◌<◌, cond, ◌&&◌, Some, None, Option, ◌==◌, nat_lt}
use Rattle.catalogue.specs.declared.refusal.Refusal.{Refusal}
use Rattle.catalogue.specs.declared.row.Row.{Row}
use Rattle.catalogue.specs.declared.kind.counter.Counter.{Counter}
use Rattle.catalogue.specs.declared.kind.tape.Tape.{Tape}
use Rattle.catalogue.specs.Refusals.{number}

-- A typed reading answers the value that the row unpacks to, and is refused where there is none.
abbrev pub value_reply : {T : Type 0} → Option T → ℕ × Option T
value_reply None = (number Refusal.NoValue, None)
value_reply (Some v) = (0, Some v)

-- A counter n is the row (0, n).
abbrev pub counter_packed : Counter → Row
counter_packed n = record { high = 0; low = n.0 }

abbrev pub counter_unpacked : Row → Option Counter
counter_unpacked r = cond (r.high == 0) (Some (record { 0 = r.low })) None

-- A blank tape is (0, 0); one that holds a job since a day (1, job × 2^32 + day); one that is reusable from a day (2, day).
abbrev pub tape_packed : Tape → Row
tape_packed Tape.Blank = record { high = 0; low = 0 }
tape_packed (Tape.Holding job since) = record { high = 1; low = job * 2 ^ 32 + since }
tape_packed (Tape.Reusable from) = record { high = 2; low = from }

abbrev pub tape_unpacked : Row → Option Tape
tape_unpacked r =
    cond (r.high == 0 && r.low == 0) (Some Tape.Blank)
    (cond (r.high == 1) (Some (Tape.Holding (r.low / 2 ^ 32) (r.low % 2 ^ 32)))
    (cond (r.high == 2 && nat_lt r.low (2 ^ 32)) (Some (Tape.Reusable r.low)) None))

-- Jobs and days have 32 bits.
abbrev pub FitsTape : Tape → Type 0
FitsTape Tape.Blank = Unit {0}
FitsTape (Tape.Holding job since) = (job < 2 ^ 32) × (since < 2 ^ 32)
FitsTape (Tape.Reusable from) = from < 2 ^ 32
