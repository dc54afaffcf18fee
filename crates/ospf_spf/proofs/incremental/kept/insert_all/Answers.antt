use Rattle.std.proofs.Common.{◌≤◌, length}
use Rattle.std.proofs.lemmas.List.{take_all}
use Rattle.ospf_spf.proofs.IncrementalSpf.KeptGrowth.{adds_more, adds_none}
use Rattle.ospf_spf.proofs.incremental.kept.insert_all.Goals as goal

pub loop-edge-init : goal.loop-edge-init
loop-edge-init c = record { in_order = c.requires; members = adds_none c.args.edges.now.items }

pub loop-edge-preserved : goal.loop-edge-preserved
loop-edge-preserved c =
    record {
      in_order = c.in_ok-insert_edge.ensures.in_order;
      members = adds_more c.args.more.now c.loop-edge.edge-index _ c.args.edges.now.items c.loop-edge.edges.items _ c.loop-edge-test.true c.loop-edge.invariant.members c.in_ok-insert_edge.ensures.members;
    }

pub returns-clause-members : goal.returns-clause-members
returns-clause-members c =
    let end : length c.args.more.now ≤ c.loop-edge.edge-index = c.loop-edge-test.false in
    rw take_all at c.loop-edge.invariant.members
