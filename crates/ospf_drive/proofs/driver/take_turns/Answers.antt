use Rattle.ospf_drive.proofs.Going.{goes_none, goes_on_untold, goes_on_told, turned_on}
use Rattle.ospf_drive.proofs.driver.take_turns.Goals as goal

pub loop-init : goal.loop-init
loop-init g c = (tt, tt, goes_none)

pub loop-preserved-in-On-None : goal.loop-preserved-in-On-None
loop-preserved-in-On-None g c =
    (tt, tt, goes_on_untold c.loop.invariant.2 (turned_on c.in_ok-turn.ensures.ok c.in-On-None.is c.in-On-None.field-0-is))

pub loop-preserved : goal.loop-preserved
loop-preserved g c =
    (tt, tt, goes_on_told c.loop.invariant.2 (turned_on c.in_ok-turn.ensures.ok c.in-On-Some.is c.in-On-Some.field-0-is))
