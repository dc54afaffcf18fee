use Rattle.ospf_lsdb.proofs.MapLaws.{ages}
use Rattle.ospf_lsdb.proofs.laws.tick_ages_all.Goals as goal

pub returns : goal.returns
returns c = ages
