use Rattle.ospf_graph.proofs.EdgeLists.GivenLemmas.{network_is}
use Rattle.ospf_graph.proofs.edges.ends.network_end.Goals as goal

pub returns : goal.returns
returns c = network_is c.args.id c.args.mask c.in_ok-prefix.prefix c.in_ok-prefix.ensures.found
