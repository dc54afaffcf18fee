use Rattle.ospf_graph.specs.EdgeLists.Given.{StubGives}
use Rattle.ospf_graph.proofs.EdgeLists.AddsLemmas.{adds_push, adds_none}
use Rattle.ospf_graph.proofs.edges.ends.add_stub.Goals as goal

pub returns-in_ok-push-in-Some : goal.returns-in_ok-push-in-Some
returns-in_ok-push-in-Some c =
    rw c.in_ok-push-in-Some.ensures.items (adds_push (StubGives c.args.router c.args.link) c.args.ends.now.items c.in-Some.end c.in-Some.ensures)

pub returns-in-None : goal.returns-in-None
returns-in-None c = adds_none (StubGives c.args.router c.args.link) c.args.ends.now.items c.in-None.ensures
