use Rattle.std.proofs.Common.{◌≡◌, ◌++◌, map, drop, vec_items}
use Rattle.line.specs.Refusals.{told}
use Rattle.report.specs.Writing.{requests_in}
use Rattle.report.proofs.requesting.requests.Given as goal

-- what is left gives the rest of the requests
abbrev pub invariant-loop-reading : goal.invariant-loop-reading
invariant-loop-reading l =
    vec_items l.requests ++ requests_in (map told (drop l.reading-index l.entries)) ≡ requests_in (map told l.entries)
