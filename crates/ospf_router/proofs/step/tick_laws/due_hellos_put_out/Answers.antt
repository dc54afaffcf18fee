use Rattle.ospf_router.proofs.AreaStep.Parts.{due_hellos_put}
use Rattle.ospf_router.proofs.step.tick_laws.due_hellos_put_out.Goals as goal

pub returns : goal.returns
returns c = due_hellos_put
