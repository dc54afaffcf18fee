use Rattle.ospf_router.proofs.AreaStep.Turns.{repeats_put}
use Rattle.ospf_router.proofs.step.tick_laws.repeats_put_out.Goals as goal

pub returns : goal.returns
returns c marks s t out out' = repeats_put s t marks out out'
