use Rattle.std.proofs.Common.{◌≤◌, length}
use Rattle.std.proofs.lemmas.List.{take_all}
use Rattle.ospf_spf.proofs.IncrementalSpf.ShrinkSteps.{lead_more}
use Rattle.ospf_spf.proofs.incremental.shrink.all_lead_to.Goals as goal

pub loop-vertex-preserved : goal.loop-vertex-preserved
loop-vertex-preserved c =
    lead_more c.args.gone.now c.args.found.now c.args.edges.now c.edges_from.result.now c.loop-vertex.vertex-index _ c.loop-vertex-test.true
    c.loop-vertex.invariant c.edges_from.ensures.same (c.lead_to.ensures c.if-not-lead_to.false)

pub returns : goal.returns
returns c holds =
    let end : length c.args.gone.now ≤ c.loop-vertex.vertex-index = c.loop-vertex-test.false in
    rw take_all at c.loop-vertex.invariant
