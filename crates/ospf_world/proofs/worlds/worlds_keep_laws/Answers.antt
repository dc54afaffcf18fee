use Rattle.ospf_router.proofs.StepLaws.All.{all_laws}
use Rattle.ospf_world.proofs.Reached.{of_worlds}
use Rattle.ospf_router.specs.Laws.{KeepsLaws}
use Rattle.ospf_world.proofs.worlds.worlds_keep_laws.Goals as goal

pub returns : goal.returns
returns c = of_worlds KeepsLaws all_laws
