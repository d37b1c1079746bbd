use Rattle.std.proofs.Common.{true, false, rules}
use Rattle.sheet.proofs.Lined.{opened}
use Rattle.sheet.proofs.reader.Reader.new.Goals.{in_default-via-in-Some+else-eq, in_default-via-in_default}
use Rattle.sheet.proofs.reader.Reader.new.Goals as goal

pub returns-in-Some : goal.returns-in-Some
returns-in-Some c =
    let cut = c.in-Some.ensures in
    opened c.args.sheet.now c.in-Some.names.now c.in-Some.field-0-1.now true c.if-sheet-gt-MOST_BYTES.false cut.0 cut.1 c.if-eq.ensures

pub returns-in_default : goal.returns-in_default
returns-in_default c =
    rw c.of_line-in_default.ensures
    (elim c.in_default.branch [
      | in_default-via-in-Some+else-eq w ↦ let cut = w.in-Some.ensures in opened c.args.sheet.now w.in-Some.names.now w.in-Some.field-0-1.now false c.if-sheet-gt-MOST_BYTES.false cut.0 cut.1 w.if-eq.ensures
      | in_default-via-in_default w ↦ search rules
    ])
