use Rattle.std.proofs.Common.{get_or, sym, ap, ◌∙◌, ap₂, arith}
use Rattle.std.proofs.lemmas.List.FromFn.{fill_by_all}
use Rattle.catalogue.specs.declared.table.Table.{Table}
use Rattle.versioning.specs.Machine.{version_after}
use Rattle.cluster.specs.Transactions.{course_of}
use Rattle.cluster.specs.Next.{touches}
use Rattle.cluster.proofs.Below.{table_at, fill_next}
use Rattle.cluster.proofs.transaction.next.NextOperation.let_go.Goals as goal

pub version_after-requires : goal.version_after-requires
version_after-requires c =
    let n = c.loop-table.table-index in
    let number = sym (ap (λ (t : Table). t.number) c.table-item.is) ∙ table_at c.all.result n c.table-item.result c.all.ensures c.loop-table-test.true c.table-item.is in
    let version = ap (λ i. get_or c.loop-table.versions i 0) (c.index-t.ensures ∙ number) ∙ c.loop-table.invariant.2 n (omega arith) in
    λ w h. omega (arith, version, c.requires n w (sym (ap (touches c.args.self.now) number) ∙ h))

pub loop-table-preserved : goal.loop-table-preserved
loop-table-preserved c =
    let n = c.loop-table.table-index in
    let after = version_after (course_of c.args.self.now.transaction.now) c.args.self.now.replica.number in
    let number = sym (ap (λ (t : Table). t.number) c.table-item.is) ∙ table_at c.all.result n c.table-item.result c.all.ensures c.loop-table-test.true c.table-item.is in
    let at = c.index-t.ensures ∙ number in
    let version = ap (λ i. get_or c.loop-table.versions i 0) at ∙ c.loop-table.invariant.2 n (omega arith) in
    fill_next (λ t. after t (get_or c.args.versions.now t 0)) c.args.versions.now c.loop-table.versions n c.index-t.result c.version_after.result c.loop-table-test.true at (c.version_after.ensures ∙ ap₂ after number version) c.loop-table.invariant

pub returns : goal.returns
returns c =
    let i = c.loop-table.invariant in
    fill_by_all (λ t. version_after (course_of c.args.self.now.transaction.now) c.args.self.now.replica.number t (get_or c.args.versions.now t 0)) c.loop-table.versions 8 0 i.0 (λ k h. i.1 k (omega arith))
