use Rattle.ospf_router.proofs.AreaStep.StepChains.{tick_puts}
use Rattle.ospf_router.proofs.step.tick_laws.ticks_are_chains.Goals as goal

pub returns : goal.returns
returns c s t out mid_out is db aged_rise ticked_rise rest u out' read next =
    tick_puts rest s t u out mid_out out' is db aged_rise ticked_rise read next
