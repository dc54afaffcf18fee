use Rattle.ospf_spf.specs.IncrementalSpf.Growth.{IsAt, HasStart}
use Rattle.ospf_spf.proofs.IncrementalSpf.GrowthSteps.{offers_more}
use Rattle.ospf_spf.proofs.incremental.grow.offer_all.Goals as goal

pub loop-edge-preserved : goal.loop-edge-preserved
loop-edge-preserved c =
    offers_more c.args.some.now c.loop-edge.edge-index _ (IsAt c.args.found.now.reached.items) (HasStart c.args.found.now.reached.items) c.args.waits.now.list c.loop-edge.waits.list _
    c.loop-edge-test.true c.loop-edge.invariant c.in_ok-offer.ensures
