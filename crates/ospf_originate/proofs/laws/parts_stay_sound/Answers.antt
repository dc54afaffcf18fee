use Rattle.ospf_originate.proofs.StaySound.{parts_stay}
use Rattle.ospf_originate.proofs.laws.parts_stay_sound.Goals as goal

pub returns : goal.returns
returns c = parts_stay
