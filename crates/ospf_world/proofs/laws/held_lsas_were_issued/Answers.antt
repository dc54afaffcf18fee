use Rattle.ospf_world.proofs.RunsFacts.{Facts-new, Facts-run, held_was_issued}
use Rattle.ospf_world.proofs.laws.held_lsas_were_issued.Goals as goal

pub returns : goal.returns
returns c is_dropped events start end lsa new run held = held_was_issued end lsa (Facts-run is_dropped events start end (Facts-new start new) run) held
