use Rattle.ospf_world.proofs.RunsFacts.{Facts-new, Facts-run}
use Rattle.ospf_world.proofs.ListedWalks as walks
use Rattle.ospf_world.proofs.ChosenWalks.{arrives}
use Rattle.ospf_world.proofs.laws.chosen_walks_arrive.Goals as goal

pub returns-clause-reached : goal.returns-clause-reached
returns-clause-reached c is_dropped events start end a x new run none at agree =
    let facts = Facts-run is_dropped events start end (Facts-new start new) run in
    λ address first best choices routers paid ends walk.
    arrives end a x facts at (walks.walks_arrive end a x c.walk_law.ensures facts none at agree) address first best choices routers paid ends walk

pub returns-clause-listed : goal.returns-clause-listed
returns-clause-listed c is_dropped events start end a x new run none at agree =
    let facts = Facts-run is_dropped events start end (Facts-new start new) run in
    λ address first best choices routers paid ends walk.
    arrives end a x facts at (walks.walks_arrive end a x c.walk_law.ensures facts none at (λ r listed reached. agree r listed)) address first best choices routers paid ends walk
