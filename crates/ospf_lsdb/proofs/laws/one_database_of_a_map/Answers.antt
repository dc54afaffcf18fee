use Rattle.ospf_lsdb.proofs.MapLaws.{one_database}
use Rattle.ospf_lsdb.proofs.laws.one_database_of_a_map.Goals as goal

pub returns : goal.returns
returns c = one_database
