use Rattle.std.proofs.Common.{◌≤◌, length}
use Rattle.std.proofs.lemmas.List.{take_all}
use Rattle.std.proofs.lemmas.List.Filters.{dedup_is}
use Rattle.ospf_spf.proofs.IncrementalSpf.LeftLemmas.{far_more, far_once}
use Rattle.ospf_spf.proofs.incremental.left.far_ends.Goals as goal

pub loop-vertex-preserved : goal.loop-vertex-preserved
loop-vertex-preserved c =
    far_more c.args.edges.now c.args.gone.now c.loop-vertex.vertex-index _ c.loop-vertex-test.true c.loop-vertex.far.items c.add_far_ends.new.far.items
    c.edges_from.result.now c.loop-vertex.invariant c.edges_from.ensures.same c.in_ok-add_far_ends.ensures.kept c.in_ok-add_far_ends.ensures.added

pub returns : goal.returns
returns c =
    let end : length c.args.gone.now ≤ c.loop-vertex.vertex-index = c.loop-vertex-test.false in
    let are = rw take_all at c.loop-vertex.invariant in
    rw (dedup_is _ _ _ c.dedup.ensures.filtered)
    (far_once c.args.edges.now c.args.gone.now c.loop-vertex.far.items c.sort_unstable_by_key.new.self.items c.sort_unstable_by_key.ensures.permutation are)
