use Rattle.ospf_adjacency.proofs.GoLemmas.{hello_goes}
use Rattle.ospf_adjacency.proofs.hello_laws.hello_goes.Goals as goal

pub returns : goal.returns
returns c = hello_goes
