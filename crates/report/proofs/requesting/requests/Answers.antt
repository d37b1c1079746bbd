use Rattle.std.proofs.Common.{◌+◌, ◌≤◌, [], ◌∷◌, ◌++◌, map, length, drop, Ok, vec_items, sym, ap, ◌∙◌, append_assoc, append-nil, arith}
use Rattle.std.proofs.lemmas.List.{at_drop_more, at_drop_all}
use Rattle.sequencing.specs.declared.call.Call.{Call}
use Rattle.line.specs.Refusals.{told}
use Rattle.versioning.specs.declared.request.Request.{Request}
use Rattle.report.specs.Writing.{requests_in}
use Rattle.report.proofs.requesting.requests.Goals as goal
use Rattle.report.proofs.requesting.requests.Goals.{in-Ok+in_ok-push, in_default}

pub loop-reading-preserved : goal.loop-reading-preserved
loop-reading-preserved c =
    let i = c.loop-reading.reading-index in
    let xs = c.args.entries.now in
    let d = Ok (Call.Begin []) in
    let before = vec_items c.loop-reading.requests in
    let behind = map told (drop (i + 1) xs) in
    let left = sym (at_drop_more (λ ys. before ++ requests_in (map told ys)) xs i d c.loop-reading-test.true) ∙ c.loop-reading.invariant in
    elim c.match-reading.branch [
      | in-Ok+in_ok-push w ↦
          ap (λ v. vec_items v ++ requests_in behind) w.requests-is
          ∙ ap (λ ys. ys ++ requests_in behind) w.in_ok-push.ensures.items
          ∙ append_assoc before (Request.Call w.in-Ok.call ∷ []) (requests_in behind)
          ∙ ap (λ x. before ++ requests_in (told x ∷ behind)) (sym w.in-Ok.is)
          ∙ left
      | in_default w ↦
          ap (λ v. vec_items v ++ requests_in behind) w.requests-is
          ∙ ap (λ x. before ++ requests_in (told x ∷ behind)) (sym w.in_default.is)
          ∙ left
    ]

pub returns : goal.returns
returns c =
    let i = c.loop-reading.reading-index in
    let xs = c.args.entries.now in
    let before = vec_items c.loop-reading.requests in
    let end : length xs ≤ i = omega arith in
    sym (append-nil before) ∙ sym (at_drop_all (λ ys. before ++ requests_in (map told ys)) xs i end) ∙ c.loop-reading.invariant
