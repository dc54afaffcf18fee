use Rattle.ospf_spf.specs.IncrementalSpf.Growth.{HasStart, IsAt}
use Rattle.ospf_spf.proofs.IncrementalSpf.ShrinkSteps.{false_true, opens_none, opens_offered}
use Rattle.ospf_spf.proofs.incremental.shrink.offer_one_to.Goals as goal

pub returns-in_ok-offer : goal.returns-in_ok-offer
returns-in_ok-offer c = opens_offered c.args.gone.now (IsAt c.args.found.now.reached.items) (HasStart c.args.found.now.reached.items) _ _ _ c.in_ok-offer.ensures

pub returns-else-is_among : goal.returns-else-is_among
returns-else-is_among c =
    opens_none c.args.gone.now (IsAt c.args.found.now.reached.items) c.args.edge c.args.waits.now.list (λ m. false_true c.is_among.result c.if-is_among.false (c.is_among.ensures.1 m))
