use Rattle.std.proofs.Common.{List, subst, sym}
use Rattle.std.proofs.lemmas.Result.{IfOk-weaker}
use Rattle.serde_json.specs.View.{view}
use Rattle.ospf_graph.specs.declared.graph.Edge.{Edge}
use Rattle.ospf_graph.specs.declared.graph.Vertex.TheVariants as vertex
use Rattle.ospf_graph.specs.EdgeLists.Listed.{advertisements_of}
use Rattle.ospf_graph.specs.EdgeLists.Near.{AreEdgesAt}
use Rattle.ospf_inspect.proofs.ValueLemmas.{network_told}
use Rattle.ospf_inspect.proofs.values.network_value.Goals as goal

pub returns : goal.returns
returns c =
    let adverts = advertisements_of c.args.listing.now in
    IfOk-weaker c.network_object.result _ _ (λ value is.
    network_told adverts c.args.lsa.now c.key-key.result c.name_of.result c.shown_of.result.age c.shown_of.result.instance c.attached.result (view c.in_ok-attached.attached) (view value)
    c.stands_for-unused.result c.key-key.ensures c.name_of.ensures c.shown_of.ensures.age c.shown_of.ensures.instance c.attached.ensures c.stands_for-unused.ensures
    (c.in_ok-attached.ensures adverts (subst (λ (es : List Edge). AreEdgesAt adverts (vertex.Network c.key-key.result.id) es) (sym c.deref.ensures.value) c.in_ok-edges.ensures.edges)) is) c.network_object.ensures
