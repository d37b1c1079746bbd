use Rattle.std.proofs.Common.{◌≡◌, ◌<◌, Result, Err, ap, ◌∙◌, arith}
use Rattle.std.proofs.lemmas.Result.{err_from_is_err_and}
use Rattle.catalogue.specs.declared.refusal.Refusal.{Refusal}
use Rattle.catalogue.specs.Refusals.{told_as}
use Rattle.sequencing.specs.Sequencer.{counts_of}
use Rattle.versioning.specs.Machine.{and_then}
use Rattle.cluster.specs.declared.replica_index.ReplicaIndex.{ReplicaIndex}
use Rattle.cluster.specs.Transactions.{transaction_of}
use Rattle.cluster.specs.View.{state_of, choice, fetched}
use Rattle.cluster.proofs.Reading.{read_refused, read_answered}
use Rattle.cluster.proofs.cluster.Cluster.replica_to_read.Goals as goal

pub returns-in_err-table : goal.returns-in_err-table
returns-in_err-table g c =
    let s = c.args.self.now in
    let begun : c.args.number < (counts_of s.sequencer).begun = omega (arith, c.begun.ensures) in
    let p = err_from_is_err_and c.from_residual.result c.from_residual.ensures.1 in
    let same : c.from_residual.result ≡ Err c.in_err-table.field-0.0 = p.1 ∙ ap Err p.2 in
    ap (λ (r : Result ReplicaIndex Refusal). and_then (told_as (λ j. j.number) r) (fetched (g.R.Replicas.catalogues s.replicas) c.args.table c.args.row)) same
    ∙ (read_refused g.R.Replicas.catalogues s c.args.number c.in-Some.i c.args.table c.args.row c.index-transaction.result.now begun c.in-Some.ensures c.index-transaction.ensures _ c.in_err-table.ensures.answer)

pub returns : goal.returns
returns g c =
    let s = c.args.self.now in
    let begun : c.args.number < (counts_of s.sequencer).begun = omega (arith, c.begun.ensures) in
    ap (λ (r : Result ReplicaIndex Refusal). and_then (told_as (λ j. j.number) r) (fetched (g.R.Replicas.catalogues s.replicas) c.args.table c.args.row)) c.ok_or.ensures.value
    ∙ (read_answered g.R.Replicas.catalogues s c.args.number c.in-Some.i c.args.table c.args.row c.index-transaction.result.now begun c.in-Some.ensures c.index-transaction.ensures c.in_ok-table.ensures.answer c.choose.result (c.choose.ensures ∙ ap (choice (state_of g.R.Replicas.catalogues s) (transaction_of c.index-transaction.result.now)) c.in_ok-table.ensures.found))
