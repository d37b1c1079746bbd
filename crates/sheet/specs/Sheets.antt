-- A whole sheet: its lines, what each tells, and where a reader of it stands.
use Rattle.std.specs.Prelude.{◌≡◌, ℕ, ◌+◌, min, Bool, true, false, cond, ◌&&◌, List, [], ◌∷◌, length, drop, Some, None, Ok, Err, codes, Option, Result, ◌==◌, nat_lt}
use Rattle.std.specs.Str.{bytes_eq}
use Rattle.catalogue.specs.declared.refusal.Refusal.{Refusal}
use Rattle.sequencing.specs.declared.call.Call.{Call}
use Rattle.sheet.specs.declared.reader.Reader.{Reader}
use Rattle.line.specs.declared.refusal.SheetRefusal.{SheetRefusal}
use Rattle.field.specs.Pieces.{pieces}
use Rattle.field.specs.Fields.{Content}
use Rattle.line.specs.Refusals.{Told, field_of, accepted, refused}
use Rattle.line.specs.Calls.{call_reply}
use Rattle.line.specs.Lines.{contents_of}

-- A line: its text, and whether a line feed ends it.
pub record Line : Type 0 where
  pub text : List ℕ
  pub ended : Bool

-- What stands behind the last line feed is a line too, without one, unless it is empty.
abbrev pub unended : List ℕ → List Line
unended [] = []
unended (b ∷ bs) = record { text = b ∷ bs; ended = false } ∷ []

-- The lines of the pieces between line feeds.
abbrev pub lines_in : List (List ℕ) → List Line
lines_in [] = []
lines_in (p ∷ []) = unended p
lines_in (p ∷ q ∷ ps) = record { text = p; ended = true } ∷ lines_in (q ∷ ps)

abbrev pub lines : List ℕ → List Line
lines bs = lines_in (pieces 10 bs)

-- A line with these fields tells what its call's word and the other fields do; there is always a first field.
abbrev pub fields_reply : ℕ → List Content → Told Call
fields_reply n [] = refused Refusal.BadLine n 0
fields_reply n (c ∷ cs) = call_reply n c cs

-- What line n tells: a line feed has to end it, and it has to have seven fields.
abbrev pub line_reply : ℕ → Line → Told Call
line_reply n l =
    cond (l.ended && length (contents_of l.text) == 7) (fields_reply n (contents_of l.text)) (refused Refusal.BadLine n 0)

-- Lines are counted on; the count would stop at 2^32 - 1, which no sheet comes to.
abbrev pub counted_on : ℕ → ℕ
counted_on n = min (n + 1) 4294967295

-- What lines tell, one after the other, the first of them being line n.
abbrev pub entries : ℕ → List Line → List (Told Call)
entries n [] = []
entries n (l ∷ ls) = line_reply n l ∷ entries (counted_on n) ls

-- Where a reader stands: its sheet, the lines that are left, and the number of the first of them.
pub record Standing : Type 0 where
  pub sheet : List ℕ
  pub left : List Line
  pub line : ℕ

abbrev pub standing : Reader → Standing
standing r = record { sheet = r.sheet.now; left = lines (drop r.at r.sheet.now); line = r.line }

-- The next line's answer; at the end of the sheet nothing is refused, and there is no call.
abbrev pub first_reply : ℕ → List Line → Told Call
first_reply n [] = (0, 0, 0, None)
first_reply n (l ∷ ls) = line_reply n l

abbrev pub next_reply : Standing → Told Call
next_reply s = first_reply s.line s.left

-- What an answer for the next line tells, which has no call at the end of the sheet.
abbrev pub told_next : {T : Type 0} → Result (Option T) SheetRefusal → Told T
told_next (Ok x) = (0, 0, 0, x)
told_next (Err r) = refused r.refusal r.line (field_of r.column)

-- One line further; at the end there is none.
abbrev pub past_first : List ℕ → ℕ → List Line → Standing
past_first sheet n [] = record { sheet = sheet; left = []; line = n }
past_first sheet n (l ∷ ls) = record { sheet = sheet; left = ls; line = counted_on n }

abbrev pub skip_after : Standing → Standing
skip_after s = past_first s.sheet s.line s.left

-- An accepted line is passed; a refused one leaves the reader as it was.
abbrev pub next_after : Standing → Standing
next_after s = cond ((next_reply s).0 == 0) (skip_after s) s

-- A refusal changes nothing of a reader.
abbrev pub KeptIfRefused : {T : Type 0} → Result T SheetRefusal → Reader → Reader → Type 0
KeptIfRefused (Ok x) before after = Unit {0}
KeptIfRefused (Err r) before after = after ≡ before

-- The next line's call or refusal, where there is a line.
abbrev pub first_entry : ℕ → List Line → Option (Told Call)
first_entry n [] = None
first_entry n (l ∷ ls) = Some (line_reply n l)

abbrev pub entry_reply : Standing → Option (Told Call)
entry_reply s = first_entry s.line s.left

-- The line of names.
abbrev pub names : List ℕ
names = codes "call,number,place,row,high,low,class"

-- A sheet of more than 65,536 bytes is refused; then the first line has to be the names and a line feed. Lines are counted from 1.
abbrev pub named : List ℕ → List Line → Told Standing
named sheet [] = refused Refusal.BadNames 1 0
named sheet (l ∷ ls) =
    cond (l.ended && bytes_eq l.text names) (accepted (record { sheet = sheet; left = ls; line = 2 })) (refused Refusal.BadNames 1 0)

abbrev pub open_reply : List ℕ → Told Standing
open_reply sheet = cond (nat_lt 65536 (length sheet)) (refused Refusal.SheetTooLong 1 0) (named sheet (lines sheet))

abbrev pub told_reader : Result Reader SheetRefusal → Told Standing
told_reader (Ok r) = accepted (standing r)
told_reader (Err r) = refused r.refusal r.line (field_of r.column)

-- All that a sheet tells: the refusal to open it alone, or what each line behind the names does.
abbrev pub told_from : Told Standing → List (Told Call)
told_from (n, line, field, None) = (n, line, field, None) ∷ []
told_from (n, line, field, Some s) = entries s.line s.left

abbrev pub sheet_entries : List ℕ → List (Told Call)
sheet_entries sheet = told_from (open_reply sheet)
