use Rattle.std.proofs.Common.{◌≤◌, length}
use Rattle.std.proofs.lemmas.List.{take_all}
use Rattle.ospf_spf.specs.IncrementalSpf.Shrinking.{LeadsTo}
use Rattle.ospf_spf.proofs.IncrementalSpf.ShrinkSteps.{all_more}
use Rattle.ospf_spf.proofs.incremental.shrink.lead_to.Goals as goal

pub loop-edge-preserved : goal.loop-edge-preserved
loop-edge-preserved c =
    all_more (LeadsTo c.args.gone.now c.args.found.now) c.args.some.now c.loop-edge.edge-index _ c.loop-edge-test.true c.loop-edge.invariant
    (c.leads_to.ensures c.if-not-leads_to.false)

pub returns : goal.returns
returns c holds =
    let end : length c.args.some.now ≤ c.loop-edge.edge-index = c.loop-edge-test.false in
    rw take_all at c.loop-edge.invariant
