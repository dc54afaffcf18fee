use Rattle.std.proofs.Common.{rules, ◌≡◌, ◌++◌, List, subst, sym, string_bytes}
use Rattle.ospf_graph.specs.EdgeLists.Given.{StandsFor}
use Rattle.ospf_graph.specs.declared.graph.Edge.{Edge}
use Rattle.ospf_graph.specs.declared.graph.Vertex.TheVariants as vertex
use Rattle.ospf_graph.specs.EdgeLists.Listed.{advertisements_of}
use Rattle.ospf_graph.specs.EdgeLists.Near.{AreEdgesAt}
use Rattle.ospf_inspect.specs.Lsas.{unused}
use Rattle.ospf_inspect.proofs.Marks.{mark_of}
use Rattle.ospf_inspect.proofs.Texts.{network_said}
use Rattle.ospf_inspect.proofs.lsas.network_text.Goals as goal

pub returns : goal.returns
returns c =
    let text : string_bytes c.push_str.new.self ≡ string_bytes c.in_ok-text.text ++ string_bytes c.in_ok-attached_text.field-0 = search rules in
    network_said (advertisements_of c.args.listing.now) c.args.lsa.now c.key-key.result c.name_of.result c.shown_of.result.age c.shown_of.result.instance c.unused_unless-mark.result.now
    (string_bytes c.in_ok-text.text) (string_bytes c.in_ok-attached_text.field-0) (string_bytes c.push_str.new.self) c.attached.result c.key-key.ensures c.name_of.ensures
    c.shown_of.ensures.age c.shown_of.ensures.instance c.attached.ensures
    (mark_of (StandsFor (advertisements_of c.args.listing.now) c.key-key.result.id c.key-key.result.router) unused c.unused_unless-mark.result.now c.stands_for.result c.stands_for.ensures
    c.unused_unless-mark.ensures.used c.unused_unless-mark.ensures.other)
    c.in_ok-text.ensures (c.in_ok-attached_text.ensures (advertisements_of c.args.listing.now) (subst (λ (es : List Edge). AreEdgesAt (advertisements_of c.args.listing.now) (vertex.Network c.key-key.result.id) es) (sym c.deref.ensures.value) c.in_ok-edges.ensures.edges)) text
