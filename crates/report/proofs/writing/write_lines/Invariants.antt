use Rattle.std.proofs.Common.{◌≡◌, ◌++◌, map, length, drop, vec_items}
use Rattle.catalogue.specs.Refusals.{told}
use Rattle.line.specs.Refusals.{told as told_line}
use Rattle.report.specs.Writing.{requests_in, written_from}
use Rattle.report.proofs.writing.write_lines.Given as goal

-- what is left gives the rest of the text, and there is an answer for each call in it
abbrev pub invariant-loop-reading : goal.invariant-loop-reading
invariant-loop-reading l =
    record {
      written :
          vec_items l.out ++ written_from l.line (map told_line (drop l.reading-index l.entries)) (map told l.answers.rest.now)
          ≡ vec_items l.initial.out ++ written_from 2 (map told_line l.entries) (map told l.initial.answers.rest.now);
      enough : length l.answers.rest.now ≡ length (requests_in (map told_line (drop l.reading-index l.entries)));
    }
