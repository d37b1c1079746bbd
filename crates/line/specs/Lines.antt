-- A line's seven fields, and what the line tells.
use Rattle.std.specs.Prelude.{ℕ, ◌-◌, cond, List, [], ◌∷◌, map, length, is_some, Some, Ok, Err, Result, ◌==◌, slice_index_or}
use Rattle.catalogue.specs.declared.refusal.Refusal.{Refusal}
use Rattle.line.specs.declared.column.Column.{Column}
use Rattle.line.specs.declared.fields.Fields.{Fields}
use Rattle.line.specs.declared.refusal.SheetRefusal.{SheetRefusal}
use Rattle.field.specs.Pieces.{pieces}
use Rattle.field.specs.Fields.{Content, shown, content_of, nothing_in}
use Rattle.field.specs.declared.field.Field.{Field}
use Rattle.line.specs.Refusals.{Told, field_of, accepted, refused}
use Rattle.line.specs.Columns.{column_number}

-- A line's fields are the pieces between its commas.
abbrev pub contents_of : List ℕ → List Content
contents_of text = map content_of (pieces 44 text)

-- The fields as the program has them: one by its column, those behind the word, and all seven.
abbrev pub in_column : Fields → Column → Content
in_column f c = shown (slice_index_or f.fields (column_number c - 1) Field.Empty)

abbrev pub behind : Fields → List Content
behind f =
    in_column f Column.Number ∷ in_column f Column.Place ∷ in_column f Column.Row ∷ in_column f Column.High ∷ in_column f Column.Low ∷ in_column f Column.Class ∷ []

abbrev pub all_shown : Fields → List Content
all_shown f = in_column f Column.Call ∷ behind f

-- The lowest of the columns whose field is not empty, by its number; 0 where all are empty.
abbrev pub lowest_used : Fields → List Column → ℕ
lowest_used f [] = 0
lowest_used f (c ∷ cs) = cond (is_some (nothing_in (in_column f c))) (lowest_used f cs) (column_number c)

-- The refusal of a field that breaks its rule.
abbrev pub bad_field : ℕ → Column → SheetRefusal
bad_field line column = record { refusal = Refusal.BadField; line = line; column = Some column }

-- What a line cut into fields tells: its number and its seven fields.
abbrev pub told_fields : Result Fields SheetRefusal → Told (ℕ × List Content)
told_fields (Ok f) = accepted (f.line, all_shown f)
told_fields (Err r) = refused r.refusal r.line (field_of r.column)

abbrev pub cut_reply : ℕ → List ℕ → Told (ℕ × List Content)
cut_reply line text =
    cond (length (contents_of text) == 7) (accepted (line, contents_of text)) (refused Refusal.BadLine line 0)
