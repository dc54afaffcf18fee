use Rattle.ospf_drive.proofs.Flat.{all_ticks}
use Rattle.ospf_drive.proofs.laws.all_ticks_are_taken.Goals as goal

pub returns : goal.returns
returns g c = all_ticks g.M.Machine.rules
