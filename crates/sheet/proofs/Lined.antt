-- A sheet's lines from a place on.
use Rattle.std.proofs.Common.{◌≡◌, ℕ, ◌+◌, ◌-◌, ◌≤◌, Bool, true, cond, ltb, List, ◌∷◌, length, take, drop, sym, ap, ◌∙◌, arith}
use Rattle.std.proofs.lemmas.List.{drop-drop, take_rest}
use Rattle.std.specs.Str.{bytes_eq}
use Rattle.std.proofs.lemmas.Bool.{cond-false, le-ltb}
use Rattle.catalogue.specs.declared.refusal.Refusal.{Refusal}
use Rattle.field.specs.Pieces.{pieces}
use Rattle.line.specs.Refusals.{accepted, refused}
use Rattle.sheet.specs.Sheets.{lines_in, lines, names, named, open_reply}
use Rattle.field.proofs.Cut.{some_first}

pub lines_more : (text rest : List ℕ) → lines_in (text ∷ pieces 10 rest) ≡ record { text = text; ended = true } ∷ lines rest
lines_more text rest =
    let f = some_first 10 rest in
    ap (λ (ps : List (List ℕ)). lines_in (text ∷ ps)) f.is
    ∙ sym (ap (λ (ps : List (List ℕ)). record { text = text; ended = true } ∷ lines_in ps) f.is)

-- a sheet whose first line ends behind the text
pub opened : (sheet text rest : List ℕ) (t : Bool) → length sheet ≤ 65536 → pieces 10 sheet ≡ text ∷ pieces 10 rest → rest ≡ drop (length text + 1) sheet → t ≡ bytes_eq text names
    → cond t (accepted (record { sheet = sheet; left = lines (drop (length text + 1) sheet); line = 2 })) (refused Refusal.BadNames 1 0) ≡ open_reply sheet
opened sheet text rest t short cut is named-so =
    let all : lines sheet ≡ record { text = text; ended = true } ∷ lines (drop (length text + 1) sheet) =
    ap lines_in cut ∙ lines_more text rest ∙ ap (λ (bs : List ℕ). record { text = text; ended = true } ∷ lines bs) is in
    ap (λ (v : Bool). cond v (accepted (record { sheet = sheet; left = lines (drop (length text + 1) sheet); line = 2 })) (refused Refusal.BadNames 1 0)) named-so
    ∙ sym (cond-false (ltb 65536 (length sheet)) (refused Refusal.SheetTooLong 1 0) (named sheet (lines sheet)) (le-ltb 65536 (length sheet) short) ∙ ap (named sheet) all)

module _ (sheet : List ℕ) (k : ℕ) where
  -- the part of the sheet from the place on, as it is lent
  abbrev part : List ℕ
  part = take (length sheet - k) (drop k sheet)

  pub line_ended : (text rest : List ℕ) → pieces 10 part ≡ text ∷ pieces 10 rest → rest ≡ drop (length text + 1) part → lines (drop k sheet) ≡ record { text = text; ended = true } ∷ lines (drop (k + length text + 1) sheet)
  line_ended text rest cut is =
      let n : k + (length text + 1) ≡ k + length text + 1 = omega arith in
      ap lines (sym (take_rest sheet k)) ∙ ap lines_in cut ∙ lines_more text rest
      ∙ ap (λ (bs : List ℕ). record { text = text; ended = true } ∷ lines bs)
      (is ∙ ap (drop (length text + 1)) (take_rest sheet k) ∙ drop-drop (length text + 1) k sheet ∙ ap (λ i. drop i sheet) n)
