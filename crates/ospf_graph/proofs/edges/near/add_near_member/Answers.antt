use Rattle.ospf_graph.specs.declared.graph.Vertex.TheVariants.{Network}
use Rattle.ospf_graph.specs.EdgeLists.Listed.{advertisements_of}
use Rattle.ospf_graph.specs.EdgeLists.Near.{MemberGives, SendsEdge}
use Rattle.ospf_graph.proofs.EdgeLists.AddsLemmas.{adds_both}
use Rattle.ospf_graph.proofs.edges.near.add_near_member.Goals as goal

pub returns : goal.returns
returns c =
    let A = advertisements_of c.args.listing.now in
    adds_both (MemberGives c.args.id c.args.member A) (SendsEdge c.args.member (Network c.args.id) A) c.args.edges.now.items c.add_member.new.edges.items
    c.add_sent.new.edges.items c.in_ok-add_member.ensures c.in_ok-add_sent.ensures
