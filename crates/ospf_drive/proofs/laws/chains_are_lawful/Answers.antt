use Rattle.ospf_drive.proofs.Lawful.{chain_is}
use Rattle.ospf_drive.proofs.laws.chains_are_lawful.Goals as goal

pub returns : goal.returns
returns c = λ r kept ds is. chain_is c.steps_are_lawful.ensures c.steps_stay_kept.ensures r ds kept is
