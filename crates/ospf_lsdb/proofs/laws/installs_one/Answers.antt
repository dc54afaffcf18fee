use Rattle.ospf_lsdb.proofs.MapLaws.{installs}
use Rattle.ospf_lsdb.proofs.laws.installs_one.Goals as goal

pub returns : goal.returns
returns c = installs
