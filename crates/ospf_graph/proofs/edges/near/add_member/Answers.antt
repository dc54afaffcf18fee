use Rattle.ospf_graph.specs.declared.graph.Edge.{Edge}
use Rattle.ospf_graph.specs.declared.graph.Vertex.TheVariants.{Router, Network}
use Rattle.ospf_graph.specs.EdgeLists.Listed.{advertisements_of}
use Rattle.ospf_graph.specs.EdgeLists.Near.{MemberGives}
use Rattle.ospf_graph.proofs.EdgeLists.AddsLemmas.{adds_push, adds_none}
use Rattle.ospf_graph.proofs.EdgeLists.GivenLemmas.{member_is}
use Rattle.ospf_graph.proofs.edges.near.add_member.Goals as goal

pub returns-in_ok-push-in-Some : goal.returns-in_ok-push-in-Some
returns-in_ok-push-in-Some c =
    let A = advertisements_of c.args.listing.now in
    let edge : Edge = record { from = Network c.args.id; to = Router c.args.member; cost = 0; link_data = c.in-Some.address } in
    rw c.in_ok-push-in-Some.ensures.items
    (adds_push (MemberGives c.args.id c.args.member A) c.args.edges.now.items edge
    (member_is A c.args.id c.args.member c.in-Some.address c.in-Some.ensures.found.0 c.in-Some.ensures.found.1))

pub returns-in-None : goal.returns-in-None
returns-in-None c =
    adds_none (MemberGives c.args.id c.args.member (advertisements_of c.args.listing.now)) c.args.edges.now.items (λ e g. c.in-None.ensures.none g.0 g.1)
