-- The columns of a line.
use Rattle.std.specs.Prelude.{ℕ, ◌-◌, List, [], ◌∷◌, drop}
use Rattle.line.specs.declared.column.Column.{Column}

-- The columns by their numbers, the call's word being the first.
abbrev pub column_number : Column → ℕ
column_number Column.Call = 1
column_number Column.Number = 2
column_number Column.Place = 3
column_number Column.Row = 4
column_number Column.High = 5
column_number Column.Low = 6
column_number Column.Class = 7

abbrev pub columns : List Column
columns = Column.Call ∷ Column.Number ∷ Column.Place ∷ Column.Row ∷ Column.High ∷ Column.Low ∷ Column.Class ∷ []

-- A column and those behind it.
abbrev pub columns_from : Column → List Column
columns_from c = drop (column_number c - 1) columns
