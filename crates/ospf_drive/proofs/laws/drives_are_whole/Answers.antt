use Rattle.ospf_drive.proofs.Flat.{whole}
use Rattle.ospf_drive.proofs.laws.drives_are_whole.Goals as goal

pub returns : goal.returns
returns g c = whole g.M.Machine.rules
