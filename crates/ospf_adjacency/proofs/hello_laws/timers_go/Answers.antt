use Rattle.ospf_adjacency.proofs.GoLemmas.{timers_go}
use Rattle.ospf_adjacency.proofs.hello_laws.timers_go.Goals as goal

pub returns : goal.returns
returns c = timers_go
