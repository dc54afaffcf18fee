use Rattle.ospf_graph.specs.EdgeLists.Given.{LinkGives}
use Rattle.ospf_graph.proofs.EdgeLists.AddsLemmas.{adds_push, adds_none}
use Rattle.ospf_graph.proofs.edges.edges.add_link.Goals as goal

pub returns-in_ok-push-in-Some-clause-added : goal.returns-in_ok-push-in-Some-clause-added
returns-in_ok-push-in-Some-clause-added c =
    rw c.in_ok-push-in-Some.ensures.items
    (adds_push (LinkGives c.args.index.now c.args.router c.args.link) c.args.edges.now.items c.in-Some.edge c.in-Some.ensures)

pub returns-in-None-clause-added : goal.returns-in-None-clause-added
returns-in-None-clause-added c = adds_none (LinkGives c.args.index.now c.args.router c.args.link) c.args.edges.now.items c.in-None.ensures
