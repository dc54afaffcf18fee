use Rattle.ospf_graph.specs.declared.graph.Edge.{Edge}
use Rattle.ospf_graph.specs.declared.graph.Vertex.TheVariants.{Router, Network}
use Rattle.ospf_graph.specs.EdgeLists.Given.{AttachedGives}
use Rattle.ospf_graph.proofs.EdgeLists.AddsLemmas.{adds_push, adds_none}
use Rattle.ospf_graph.proofs.EdgeLists.GivenLemmas.{member_is}
use Rattle.ospf_graph.proofs.edges.edges.add_member.Goals as goal

pub returns-in_ok-push-in-Some-clause-added : goal.returns-in_ok-push-in-Some-clause-added
returns-in_ok-push-in-Some-clause-added c =
    let A = c.args.index.now in
    let edge : Edge = record { from = Network c.args.id; to = Router c.args.member; cost = 0; link_data = c.in-Some.address } in
    rw c.in_ok-push-in-Some.ensures.items
    (adds_push (AttachedGives A c.args.id c.args.member) c.args.edges.now.items edge
    (member_is A c.args.id c.args.member c.in-Some.address c.in-Some.ensures.found c.in-Some.ensures.only))

pub returns-in-None-clause-added : goal.returns-in-None-clause-added
returns-in-None-clause-added c =
    adds_none (AttachedGives c.args.index.now c.args.id c.args.member) c.args.edges.now.items (λ e g. c.in-None.ensures.none g.0 g.1)
