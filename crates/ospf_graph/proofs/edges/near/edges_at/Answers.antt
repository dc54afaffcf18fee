use Rattle.std.proofs.Common.{List, subst}
use Rattle.ospf_graph.specs.declared.graph.Edge.{Edge}
use Rattle.ospf_graph.specs.Adds.{Adds}
use Rattle.ospf_graph.specs.EdgeLists.Listed.{advertisements_of}
use Rattle.ospf_graph.specs.EdgeLists.Near.{AreEdgesAt, EdgesNear}
use Rattle.ospf_graph.proofs.EdgeLists.FitLemmas.{some_fit}
use Rattle.ospf_graph.proofs.EdgeLists.NearLemmas.{edges_near}
use Rattle.ospf_graph.proofs.edges.near.edges_at.Goals as goal
use Rattle.ospf_graph.proofs.edges.near.edges_at.Goals.{In_ok-add_near}

exact : (c : In_ok-add_near) → AreEdgesAt (advertisements_of c.args.listing.now) c.args.vertex c.add_near.new.edges.items
exact c =
    let A = advertisements_of c.args.listing.now in
    edges_near A c.args.vertex c.add_near.new.edges.items
    (subst (λ (old : List Edge). Adds (EdgesNear c.args.vertex A) old c.add_near.new.edges.items) c.new-edges.ensures.items c.in_ok-add_near.ensures.added)

pub returns-clause-edges : goal.returns-clause-edges
returns-clause-edges c = exact c

pub returns-clause-fit : goal.returns-clause-fit
returns-clause-fit c = some_fit c.args.listing.now c.in_ok-add_near.ensures.listing c.add_near.new.edges.items (λ e m. ((exact c e).0 m).0)
