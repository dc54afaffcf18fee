use Rattle.std.proofs.Common.{List, subst, sym}
use Rattle.ospf_graph.specs.EdgeLists.Listed.{advertisements_of}
use Rattle.ospf_graph.specs.EdgeLists.Near.{AreEdgesAt}
use Rattle.ospf_graph.specs.declared.graph.Edge.{Edge}
use Rattle.ospf_graph.specs.declared.graph.Vertex.{Vertex}
use Rattle.ospf_whatif.specs.Lost.{centre_of}
use Rattle.ospf_whatif.proofs.outage.Outage.of.Goals as goal

pub over-requires : goal.over-requires
over-requires c =
    let A = advertisements_of c.args.listing.now in
    subst (λ (l : List Edge). AreEdgesAt A (centre_of c.args.failure.now) l) (sym c.deref.ensures.value)
    (subst (λ (v : Vertex). AreEdgesAt A v c.in_ok-near.near.items) c.centre_of.ensures c.in_ok-near.ensures.edges)
