-- The seven calls as lines: the word of each, what it asks of the six fields behind the word, and the call that these make.
use Rattle.std.specs.Prelude.{ℕ, ◌+◌, Bool, cond, List, [], ◌∷◌, is_some, Some, None, codes, Option, ◌==◌, slice_index_or}
use Rattle.std.specs.Option.{unwrap_or}
use Rattle.catalogue.specs.declared.refusal.Refusal.{Refusal}
use Rattle.sequencing.specs.declared.call.Call.{Call}
use Rattle.sequencing.specs.declared.mode.Mode.{Mode}
use Rattle.std.specs.Str.{bytes_eq}
use Rattle.field.specs.Fields.{Content, empty, bytes_of, nothing_in, narrow_in, wide_in, modes_in}
use Rattle.line.specs.Refusals.{Told, accepted, refused}

-- A field is unused, and then empty, or it is a number below 2^32, a number below 2^64, or the eight letters of a declaration.
pub data Rule : Type 0 where
  unused : Rule
  narrow : Rule
  wide : Rule
  letters : Rule

abbrev pub keeps : Rule → Content → Bool
keeps unused c = is_some (nothing_in c)
keeps narrow c = is_some (narrow_in c)
keeps wide c = is_some (wide_in c)
keeps letters c = is_some (modes_in c)

-- How a call is written; the fields behind the word are, in order, number, place, row, high, low and class.
pub record Form : Type 0 where
  pub name : List ℕ
  pub rules : List Rule
  pub call : List Content → Call

-- The number in field k of those, where the rule is kept.
abbrev pub narrow_at : List Content → ℕ → ℕ
narrow_at cs k = unwrap_or (narrow_in (slice_index_or cs k empty)) 0

abbrev pub wide_at : List Content → ℕ → ℕ
wide_at cs k = unwrap_or (wide_in (slice_index_or cs k empty)) 0

abbrev pub modes_at : List Content → ℕ → List Mode
modes_at cs k = unwrap_or (modes_in (slice_index_or cs k empty)) []

abbrev pub begin_form : Form
begin_form = record {
  name = codes "begin";
  rules = unused ∷ letters ∷ unused ∷ unused ∷ unused ∷ unused ∷ [];
  call = λ cs. Call.Begin (modes_at cs 1);
}

abbrev pub write_form : Form
write_form = record {
  name = codes "write";
  rules = narrow ∷ narrow ∷ narrow ∷ wide ∷ wide ∷ narrow ∷ [];
  call = λ cs. Call.Write (narrow_at cs 0) (narrow_at cs 1) (narrow_at cs 2) (record { high = wide_at cs 3; low = wide_at cs 4 }) (narrow_at cs 5);
}

abbrev pub read_form : Form
read_form = record {
  name = codes "read";
  rules = narrow ∷ narrow ∷ narrow ∷ unused ∷ unused ∷ unused ∷ [];
  call = λ cs. Call.Read (narrow_at cs 0) (narrow_at cs 1) (narrow_at cs 2);
}

abbrev pub release_form : Form
release_form = record {
  name = codes "release";
  rules = narrow ∷ narrow ∷ unused ∷ unused ∷ unused ∷ unused ∷ [];
  call = λ cs. Call.Release (narrow_at cs 0) (narrow_at cs 1);
}

abbrev pub commit_form : Form
commit_form = record {
  name = codes "commit";
  rules = narrow ∷ unused ∷ unused ∷ unused ∷ unused ∷ unused ∷ [];
  call = λ cs. Call.Commit (narrow_at cs 0);
}

abbrev pub abort_form : Form
abort_form = record {
  name = codes "abort";
  rules = narrow ∷ unused ∷ unused ∷ unused ∷ unused ∷ unused ∷ [];
  call = λ cs. Call.Abort (narrow_at cs 0);
}

abbrev pub step_form : Form
step_form = record {
  name = codes "step";
  rules = narrow ∷ narrow ∷ unused ∷ unused ∷ unused ∷ unused ∷ [];
  call = λ cs. Call.Step (narrow_at cs 0) (narrow_at cs 1);
}

abbrev pub forms : List Form
forms = begin_form ∷ write_form ∷ read_form ∷ release_form ∷ commit_form ∷ abort_form ∷ step_form ∷ []

abbrev pub form_named : List ℕ → List Form → Option Form
form_named word [] = None
form_named word (f ∷ fs) = cond (bytes_eq word f.name) (Some f) (form_named word fs)

-- The lowest field that breaks its rule, the first of them being field n; 0 where none does.
abbrev pub lowest_bad : ℕ → List Rule → List Content → ℕ
lowest_bad n [] cs = 0
lowest_bad n (r ∷ rs) [] = 0
lowest_bad n (r ∷ rs) (c ∷ cs) = cond (keeps r c) (lowest_bad (n + 1) rs cs) n

-- What a line of the form tells: the first of its fields that is checked is field 2.
abbrev pub form_reply : Form → ℕ → List Content → Told Call
form_reply f line cs =
    cond (lowest_bad 2 f.rules cs == 0) (accepted (f.call cs)) (refused Refusal.BadField line (lowest_bad 2 f.rules cs))

-- What a line tells by its call's word, which is field 1, and the six fields behind it.
abbrev pub named_reply : Option Form → ℕ → List Content → Told Call
named_reply None line cs = refused Refusal.UnknownCall line 1
named_reply (Some f) line cs = form_reply f line cs

abbrev pub call_reply : ℕ → Content → List Content → Told Call
call_reply line c cs = named_reply (form_named (bytes_of c) forms) line cs
