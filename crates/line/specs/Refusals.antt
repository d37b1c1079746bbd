-- A refusal met while a sheet is read, and what an answer tells: number, line, field and value.
use Rattle.std.specs.Prelude.{ℕ, Some, None, Ok, Err, Option, Result}
use Rattle.catalogue.specs.declared.refusal.Refusal.{Refusal}
use Rattle.catalogue.specs.Refusals.{number}
use Rattle.line.specs.declared.column.Column.{Column}
use Rattle.line.specs.declared.refusal.SheetRefusal.{SheetRefusal}
use Rattle.line.specs.Columns.{column_number}

-- The field of a column, counted from 1; where a refusal has no column, it is of the whole line, and the field is 0.
abbrev pub field_of : Option Column → ℕ
field_of None = 0
field_of (Some c) = column_number c

-- The refusal's number (0: accepted), the line, the field, and the value where it is accepted.
abbrev pub Told : Type 0 → Type 0
Told T = ℕ × ℕ × ℕ × Option T

abbrev pub accepted : {T : Type 0} → T → Told T
accepted x = (0, 0, 0, Some x)

abbrev pub refused : {T : Type 0} → Refusal → ℕ → ℕ → Told T
refused r line field = (number r, line, field, None)

abbrev pub told : {T : Type 0} → Result T SheetRefusal → Told T
told (Ok x) = accepted x
told (Err r) = refused r.refusal r.line (field_of r.column)
