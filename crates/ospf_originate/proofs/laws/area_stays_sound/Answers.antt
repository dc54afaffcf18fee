use Rattle.ospf_originate.proofs.RemovalSound.{removal_sound}
use Rattle.ospf_originate.proofs.StaySound.{age_sound, header_sound, update_sound}
use Rattle.ospf_originate.proofs.laws.area_stays_sound.Goals as goal

pub returns : goal.returns
returns c = record { updated = update_sound; acknowledged = header_sound; aged = age_sound; removed = removal_sound }
