use Rattle.ospf_world.proofs.RunsFacts.{Facts-new, Facts-run, sound}
use Rattle.ospf_world.proofs.laws.acknowledgement_is_sound.Goals as goal

pub returns : goal.returns
returns c is_dropped events event start before after new run happens = sound event before after (Facts-run is_dropped events start before (Facts-new start new) run) happens
