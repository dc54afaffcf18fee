use Rattle.ospf_originate.proofs.StaySound.{begun_sound, relinked_sound}
use Rattle.ospf_originate.proofs.laws.starts_sound.Goals as goal

pub returns : goal.returns
returns c = record { begun = begun_sound; relinked = relinked_sound }
