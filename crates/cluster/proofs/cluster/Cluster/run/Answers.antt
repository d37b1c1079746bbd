use Rattle.std.proofs.Common.{◌≡◌, List, [], ◌++◌, map, length, vec_items, refl, ap, ◌∙◌}
use Rattle.catalogue.specs.declared.row.Row.{Row}
use Rattle.catalogue.specs.Refusals.{told}
use Rattle.catalogue.specs.Replicated.{catalogue_of}
use Rattle.versioning.specs.Machine.{State, start, final}
use Rattle.cluster.specs.Runs.{replies}
use Rattle.cluster.specs.View.{state_of}
use Rattle.std.proofs.ByRecursion.{All-get_or}
use Rattle.cluster.proofs.Ran.{in_order}
use Rattle.cluster.proofs.cluster.Cluster.run.Goals as goal

pub returns : goal.returns
returns g c =
    let pack = g.F.Family.packed in
    let unpack = g.F.Family.unpacked in
    let before = g.R.Replicas.catalogues c.args.replicas in
    let n = length before in
    let opening = catalogue_of before 0 in
    let qs = c.args.requests.now in
    let last = c.request_all.new.self in
    let s : State = state_of g.R.Replicas.catalogues last in
    let answers : map told (vec_items c.request_all.new.answers) ≡ replies pack unpack (start n opening) qs =
    c.request_all.ensures.answers
    ∙ ap (λ xs. map told xs ++ replies pack unpack (state_of g.R.Replicas.catalogues c.in_ok-cluster.cluster) qs) c.in-Ok.ensures.items
    ∙ ap (λ (t : State). replies pack unpack t qs) c.in_ok-cluster.ensures.state in
    let after : s ≡ final pack unpack (start n opening) qs =
    c.request_all.ensures.after ∙ ap (λ (t : State). final pack unpack t qs) c.in_ok-cluster.ensures.state in
    let whole = g.R.Replicas.whole c.args.replicas in
    record {
      order = in_order pack unpack n opening qs (map told (vec_items c.request_all.new.answers)) s (g.R.Replicas.catalogues last.replicas) last.versions (All-get_or (λ (rows : List Row). length rows ≡ 512) before 0 [] whole.some whole.full) answers after refl;
      answers = answers;
      after = after;
      kept = c.request_all.ensures.kept ∙ c.in_ok-cluster.ensures.kept;
    }
