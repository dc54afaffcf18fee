use Rattle.std.proofs.Common.{List, subst, sym}
use Rattle.std.proofs.lemmas.Result.{IfOk-weaker}
use Rattle.serde_json.specs.View.{view}
use Rattle.ospf_graph.specs.declared.graph.Edge.{Edge}
use Rattle.ospf_graph.specs.declared.graph.Vertex.TheVariants as vertex
use Rattle.ospf_graph.specs.EdgeLists.Listed.{advertisements_of}
use Rattle.ospf_graph.specs.EdgeLists.Near.{AreEdgesAt}
use Rattle.ospf_inspect.proofs.ValueLemmas.{router_told}
use Rattle.ospf_inspect.proofs.values.router_value.Goals as goal

pub returns : goal.returns
returns c =
    let adverts = advertisements_of c.args.listing.now in
    IfOk-weaker c.router_object.result _ _ (λ value is.
    router_told adverts c.args.lsa.now c.key.result c.shown_of.result.age c.shown_of.result.instance c.flags_of.result c.links.result (view c.in_ok-links.links) (view value) c.key.ensures
    c.shown_of.ensures.age c.shown_of.ensures.instance c.flags_of.ensures c.links.ensures
    (c.in_ok-links.ensures adverts (subst (λ (es : List Edge). AreEdgesAt adverts (vertex.Router c.key.result.router) es) (sym c.deref.ensures.value) c.in_ok-edges.ensures.edges)) is) c.router_object.ensures
