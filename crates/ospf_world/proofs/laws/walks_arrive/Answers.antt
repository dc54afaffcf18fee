use Rattle.ospf_world.proofs.RunsFacts.{Facts-new, Facts-run}
use Rattle.ospf_world.proofs.ListedWalks as walks
use Rattle.ospf_world.proofs.laws.walks_arrive.Goals as goal

pub returns-clause-reached : goal.returns-clause-reached
returns-clause-reached c is_dropped events start end a x new run none at agree =
    walks.walks_arrive end a x c.walk_law.ensures (Facts-run is_dropped events start end (Facts-new start new) run) none at agree

pub returns-clause-listed : goal.returns-clause-listed
returns-clause-listed c is_dropped events start end a x new run none at agree =
    walks.walks_arrive end a x c.walk_law.ensures (Facts-run is_dropped events start end (Facts-new start new) run) none at (λ r listed reached. agree r listed)
