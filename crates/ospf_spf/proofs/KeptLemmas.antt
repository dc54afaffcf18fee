-- A kept tree is the tree of each listing with its graph.
use Rattle.std.proofs.Common.{◌≡◌, ◌<◌, ◌^◌, List, map, sym, ◌∙◌, ap}
use Rattle.std.specs.List.{All, Contains}
use Rattle.std.specs.List.Sorted.{IsNonDecreasingBy}
use Rattle.ospf_base.specs.declared.ids.RouterId.{RouterId}
use Rattle.ospf_graph.specs.Advertisements.{Advertisement}
use Rattle.ospf_graph.specs.Graph.{IsEdge}
use Rattle.ospf_graph.specs.SameGraph.{graph_part}
use Rattle.ospf_graph.specs.Search.{AtIn, StartsIn, vertex_code}
use Rattle.ospf_graph.specs.Tree.{IsTree}
use Rattle.ospf_graph.specs.declared.graph.Edge.{Edge}
use Rattle.ospf_graph.specs.declared.graph.Vertex.TheVariants.{Router}
use Rattle.ospf_graph.specs.declared.paths.ShortestPaths.{ShortestPaths}
use Rattle.ospf_graph.proofs.GraphLemmas.{same_edges, IsSameGraph}
use Rattle.ospf_graph.proofs.TreeLemmas.{IsTree-map}
use Rattle.ospf_graph.specs.EdgeLists.Items.{graph_in, items_of_all}
use Rattle.ospf_spf.specs.Kept.{IsKeptFor, IsTreeOf}
use Rattle.ospf_graph.specs.Paths.{AreStartsInOrder}
use Rattle.ospf_graph.specs.EdgeLists.Given.{IsEdgesOf}
use Rattle.ospf_graph.specs.declared.edges.items.GraphItem.{GraphItem}
use Rattle.ospf_graph.proofs.EdgeLists.ItemLemmas.{graph_in-items, items_of_parts}

tree_of_same : (A B : List Advertisement) → IsSameGraph A B → (root : RouterId) (paths : ShortestPaths) → IsTreeOf A root paths → IsTreeOf B root paths
tree_of_same A B same root paths tree =
    IsTree-map (IsEdge A) (IsEdge B) (λ e. (same_edges A B same e).0) (λ e. (same_edges A B same e).1) (Router root) (AtIn paths.settled.items) (StartsIn paths.starts.items) tree

-- the graph that whole items tell of is its own graph part
own_part : (items : List GraphItem) → items ≡ items_of_all (graph_in items) → graph_in items ≡ map graph_part (graph_in items)
own_part items whole = ap graph_in whole ∙ graph_in-items (graph_in items)

module _ (A : List Advertisement) (items : List GraphItem) (is : items ≡ items_of_all A) where
  pub graph_is : map graph_part A ≡ graph_in items
  graph_is = sym (ap graph_in is ∙ graph_in-items A)

  whole_items : items ≡ items_of_all (graph_in items)
  whole_items = is ∙ sym (items_of_parts A) ∙ ap items_of_all graph_is

  -- from a search over all edges
  pub kept : (root : RouterId) (paths : ShortestPaths) (edges : List Edge) → IsEdgesOf A edges
      → IsTree (Contains edges) (Router root) (AtIn paths.settled.items) (StartsIn paths.starts.items)
      → All (λ s. s.distance < 2 ^ 63) paths.settled.items → IsNonDecreasingBy (λ s. vertex_code s.vertex) paths.settled.items → AreStartsInOrder paths.starts.items
      → IsKeptFor items root paths
  kept root paths edges edges_are tree near settled_in_order starts_in_order =
      record {
        told = record { near = near; one = tree.one; settled_in_order = settled_in_order; starts_in_order = starts_in_order };
        whole = whole_items;
        tree = tree_of_same A (graph_in items) (graph_is ∙ own_part items whole_items) root paths
            (IsTree-map (Contains edges) (IsEdge A) (λ e. (edges_are e).0) (λ e. (edges_are e).1) (Router root) (AtIn paths.settled.items) (StartsIn paths.starts.items) tree);
      }

-- for another listing of the graph
pub tree_for : (items : List GraphItem) (root : RouterId) (paths : ShortestPaths) → IsKeptFor items root paths → (A : List Advertisement) → map graph_part A ≡ graph_in items
    → IsTreeOf A root paths
tree_for items root paths kept A same = tree_of_same (graph_in items) A (sym (same ∙ own_part items kept.whole)) root paths kept.tree
