use Rattle.ospf_world.proofs.RunsFacts.{held_agree}
use Rattle.ospf_world.proofs.laws.held_lsas_agree.Goals as goal

pub returns : goal.returns
returns c is_dropped events later start mid end a b new run rest ha hb = held_agree is_dropped events later start mid end a b new run rest ha hb
