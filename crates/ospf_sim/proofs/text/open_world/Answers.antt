use Rattle.std.proofs.Common.{refl}
use Rattle.ospf_sim.specs.Begun.{no_room}
use Rattle.ospf_sim.proofs.Worlds.{is_new}
use Rattle.ospf_sim.proofs.text.open_world.Goals as goal

pub returns-in-Ok-clause-opens : goal.returns-in-Ok-clause-opens
returns-in-Ok-clause-opens g c = (is_new _ _ c.in-Ok.ensures, refl)

pub returns-in-Err-clause-cut : goal.returns-in-Err-clause-cut
returns-in-Err-clause-cut g c = no_room refl
