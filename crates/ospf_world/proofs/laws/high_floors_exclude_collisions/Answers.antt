use Rattle.ospf_world.proofs.RunsFacts.{Facts-new, Facts-run, no_collision}
use Rattle.ospf_world.proofs.laws.high_floors_exclude_collisions.Goals as goal

pub returns : goal.returns
returns c is_dropped events start end new run high = no_collision end (Facts-run is_dropped events start end (Facts-new start new) run) high
