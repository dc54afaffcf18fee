use Rattle.std.proofs.Common.{List, subst}
use Rattle.std.specs.List.{Contains}
use Rattle.ospf_graph.specs.Search.{AtIn, StartsIn}
use Rattle.ospf_graph.specs.Tree.{IsTree}
use Rattle.ospf_graph.specs.declared.graph.Edge.{Edge}
use Rattle.ospf_graph.specs.declared.graph.Vertex.TheVariants.{Router}
use Rattle.ospf_graph.specs.EdgeLists.Listed.{advertisements_of}
use Rattle.ospf_spf.proofs.KeptLemmas.{graph_is, kept}
use Rattle.ospf_spf.proofs.tree.Tree.of.Goals as goal

pub invariant_of-result : goal.invariant_of-result
invariant_of-result c =
    let paths = c.in_ok-paths.paths in
    let found = c.in_ok-paths.ensures in
    kept (advertisements_of c.args.listing.now) c.in_ok-items.items.items c.in_ok-items.ensures c.args.root paths c.in_ok-edges.edges.items c.in_ok-edges.ensures.edges
    (subst (λ (es : List Edge). IsTree (Contains es) (Router c.args.root) (AtIn paths.settled.items) (StartsIn paths.starts.items)) c.deref.ensures.value found.tree)
    found.near found.settled_in_order found.starts_in_order

pub returns-clause-graph : goal.returns-clause-graph
returns-clause-graph c = graph_is (advertisements_of c.args.listing.now) c.in_ok-items.items.items c.in_ok-items.ensures
