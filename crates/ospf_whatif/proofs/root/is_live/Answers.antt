use Rattle.std.proofs.Common.{◌↔◌, List, IsTrue, sym, subst}
use Rattle.std.specs.List.{Contains}
use Rattle.ospf_graph.specs.Search.{HaveSameFrom}
use Rattle.ospf_graph.specs.declared.graph.Edge.{Edge}
use Rattle.ospf_graph.specs.declared.graph.Vertex.{Vertex}
use Rattle.ospf_whatif.specs.Outage.{HasOtherFrom, left_of_area}
use Rattle.ospf_whatif.specs.Told.{IsLive}
use Rattle.ospf_whatif.proofs.OutageLemmas.{live_here}
use Rattle.ospf_whatif.proofs.root.is_live.Goals as goal

pub returns-in-Network : goal.returns-in-Network
returns-in-Network c = λ adverts graph is.
    let part = c.edges_from.result.now in
    let same = subst (λ (es : List Edge). HaveSameFrom c.args.vertex es part) c.deref.ensures.value c.edges_from.ensures.same in
    let both = subst (λ (es : List Edge). IsTrue c.has_left.result ↔ HasOtherFrom part es c.args.vertex) c.deref-in-Network.ensures.value c.has_left.ensures in
    subst (λ (v : Vertex). IsTrue c.has_left.result ↔ IsLive (left_of_area adverts c.args.outage.now) v) (sym c.in-Network.is)
    (live_here adverts c.args.outage.now is c.args.area.now graph c.in-Network.field-0 part
    (λ e m. subst (λ (es : List Edge). Contains es e) c.deref.ensures.value (c.edges_from.ensures.part e m))
    (subst (λ (v : Vertex). HaveSameFrom v c.args.area.now.edges.items part) c.in-Network.is same) c.has_left.result
    (subst (λ (v : Vertex). IsTrue c.has_left.result ↔ HasOtherFrom part c.args.outage.now.edges.items v) c.in-Network.is both))
