use Rattle.ospf_adjacency.proofs.GoLemmas.{puts_one}
use Rattle.ospf_adjacency.proofs.hello_laws.puts_one.Goals as goal

pub returns : goal.returns
returns c = puts_one
