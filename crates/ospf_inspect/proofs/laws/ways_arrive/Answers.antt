use Rattle.ospf_inspect.proofs.WayLemmas.{ways_arrive}
use Rattle.ospf_inspect.proofs.laws.ways_arrive.Goals as goal

pub returns : goal.returns
returns c = ways_arrive
