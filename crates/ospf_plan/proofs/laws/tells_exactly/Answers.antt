use Rattle.ospf_plan.proofs.PartLemmas.{tells_exactly}
use Rattle.ospf_plan.proofs.laws.tells_exactly.Goals as goal

pub returns : goal.returns
returns c = tells_exactly
