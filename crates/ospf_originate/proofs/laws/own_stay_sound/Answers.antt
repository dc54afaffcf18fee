use Rattle.ospf_originate.proofs.OwnLaws.{issue_sound, own_sound}
use Rattle.ospf_originate.proofs.StaySound.{flush_sound}
use Rattle.ospf_originate.proofs.laws.own_stay_sound.Goals as goal

pub returns : goal.returns
returns c = record { issued = issue_sound; flushed = flush_sound; ended = own_sound }
