use Rattle.sheet.proofs.Lined.{line_ended}
use Rattle.sheet.proofs.reader.take_line.Goals as goal

pub returns-in-Some-clause-line : goal.returns-in-Some-clause-line
returns-in-Some-clause-line c =
    let cut = c.in-Some.ensures in
    line_ended c.args.sheet.now c.args.cursor.now c.in-Some.text.now _ cut.0 cut.1
