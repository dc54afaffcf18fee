use Rattle.ospf_graph.proofs.EdgeLists.GivenLemmas.{stub_is}
use Rattle.ospf_graph.proofs.edges.ends.stub_of.Goals as goal

pub returns-in_ok-prefix-in-Stub : goal.returns-in_ok-prefix-in-Stub
returns-in_ok-prefix-in-Stub c = stub_is c.args.router c.args.link c.in_ok-prefix-in-Stub.prefix c.in-Stub.is c.in_ok-prefix-in-Stub.ensures.found
