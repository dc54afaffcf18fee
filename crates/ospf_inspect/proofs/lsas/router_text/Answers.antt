use Rattle.std.proofs.Common.{rules, ◌≡◌, ◌++◌, List, subst, sym, string_bytes}
use Rattle.ospf_graph.specs.declared.graph.Edge.{Edge}
use Rattle.ospf_graph.specs.declared.graph.Vertex.TheVariants as vertex
use Rattle.ospf_graph.specs.EdgeLists.Listed.{advertisements_of}
use Rattle.ospf_graph.specs.EdgeLists.Near.{AreEdgesAt}
use Rattle.ospf_inspect.proofs.Texts.{router_said}
use Rattle.ospf_inspect.proofs.lsas.router_text.Goals as goal

pub returns : goal.returns
returns c =
    let text : string_bytes c.push_str.new.self ≡ string_bytes c.in_ok-text.text ++ string_bytes c.in_ok-links_text.field-0 = search rules in
    router_said (advertisements_of c.args.listing.now) c.args.lsa.now c.key.result c.shown_of.result.age c.shown_of.result.instance c.flags_of.result (string_bytes c.in_ok-text.text)
    (string_bytes c.in_ok-links_text.field-0) (string_bytes c.push_str.new.self) c.links.result c.key.ensures c.shown_of.ensures.age c.shown_of.ensures.instance c.flags_of.ensures c.links.ensures
    c.in_ok-text.ensures (c.in_ok-links_text.ensures (advertisements_of c.args.listing.now) (subst (λ (es : List Edge). AreEdgesAt (advertisements_of c.args.listing.now) (vertex.Router c.key.result.router) es) (sym c.deref.ensures.value) c.in_ok-edges.ensures.edges)) text
