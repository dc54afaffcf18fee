use Rattle.std.proofs.Common.{◌≤◌, length}
use Rattle.std.proofs.lemmas.List.{take_all}
use Rattle.std.proofs.lemmas.List.Elements.{Contains-append_left}
use Rattle.ospf_spf.proofs.IncrementalSpf.LeftLemmas.{ends_more}
use Rattle.ospf_spf.proofs.incremental.left.add_far_ends.Goals as goal

pub loop-edge-preserved : goal.loop-edge-preserved
loop-edge-preserved c =
    let far = c.loop-edge.far.items in
    rw c.in_ok-push.ensures.items (record {
      kept = λ v m. Contains-append_left far _ v (c.loop-edge.invariant.kept v m);
      added = ends_more c.args.some.now c.loop-edge.edge-index _ c.loop-edge-test.true far c.loop-edge.invariant.added;
    })

pub returns-clause-added : goal.returns-clause-added
returns-clause-added c =
    let end : length c.args.some.now ≤ c.loop-edge.edge-index = c.loop-edge-test.false in
    rw take_all at c.loop-edge.invariant.added
