use Rattle.std.proofs.Common.{IfOk, subst, sym}
use Rattle.ospf_graph.specs.declared.graph.Vertex.{Vertex}
use Rattle.ospf_graph.specs.EdgeLists.Given.{AreEndsAt}
use Rattle.ospf_graph.specs.EdgeLists.Listed.{advertisements_of}
use Rattle.ospf_graph.proofs.edges.ends.ends_at.Goals as goal

pub returns-in-Router : goal.returns-in-Router
returns-in-Router c =
    subst (λ (v : Vertex). IfOk c.stubs_of.result (λ ends. AreEndsAt (advertisements_of c.args.listing.now) v ends.items)) (sym c.in-Router.is) c.stubs_of.ensures

pub returns-in-Network : goal.returns-in-Network
returns-in-Network c =
    subst (λ (v : Vertex). IfOk c.ends_on.result (λ ends. AreEndsAt (advertisements_of c.args.listing.now) v ends.items)) (sym c.in-Network.is) c.ends_on.ensures
