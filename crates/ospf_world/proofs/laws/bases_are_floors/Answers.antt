use Rattle.ospf_world.proofs.Bases.{bases}
use Rattle.ospf_world.proofs.laws.bases_are_floors.Goals as goal

pub returns : goal.returns
returns c is_dropped events start end new run none = bases is_dropped events start end new run none
