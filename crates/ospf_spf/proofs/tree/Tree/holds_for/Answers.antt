use Rattle.std.proofs.Common.{◌≡◌, sym, ◌∙◌, ap}
use Rattle.ospf_graph.specs.EdgeLists.Items.{graph_in}
use Rattle.ospf_graph.specs.EdgeLists.Listed.{advertisements_of}
use Rattle.ospf_graph.proofs.EdgeLists.ItemLemmas.{same_items}
use Rattle.ospf_spf.proofs.tree.Tree.holds_for.Goals as goal

pub returns : goal.returns
returns c =
    let items = c.self.inside.items.items in
    let graph : graph_in items ≡ c.args.self.now.graph = ap (λ t. t.graph) c.self.view_is in
    let same = same_items items (graph_in items) (advertisements_of c.args.listing.now) c.self.invariant.whole in
    let here = c.deref.ensures.value in (
      λ yes. same.0 (sym here ∙ c.are_items_of.ensures.0 yes) ∙ graph,
      λ holds. c.are_items_of.ensures.1 (here ∙ same.1 (holds ∙ sym graph)),
    )
