use Rattle.ospf_spf.specs.IncrementalSpf.Growth.{IsAt}
use Rattle.ospf_spf.proofs.IncrementalSpf.ShrinkSteps.{opens_more}
use Rattle.ospf_spf.proofs.incremental.shrink.offer_to.Goals as goal

pub loop-edge-preserved : goal.loop-edge-preserved
loop-edge-preserved c =
    opens_more c.args.gone.now (IsAt c.args.found.now.reached.items) c.args.some.now c.loop-edge.edge-index _ c.args.waits.now.list c.loop-edge.waits.list _
    c.loop-edge-test.true c.loop-edge.invariant c.in_ok-offer_one_to.ensures
