use Rattle.ospf_adjacency.proofs.GoLemmas.{adj_ok_goes}
use Rattle.ospf_adjacency.proofs.hello_laws.adj_ok_goes.Goals as goal

pub returns : goal.returns
returns c = adj_ok_goes
