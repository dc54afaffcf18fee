use Rattle.std.proofs.Common.{rules, ◌↔◌, List, get_or, sym, subst}
use Rattle.std.specs.List.{Contains}
use Rattle.std.specs.Prelude.{IsPermutation}
use Rattle.std.proofs.lemmas.List.Sorted.{Contains-permutation, IsPermutation-sym}
use Rattle.ospf_graph.specs.EdgeLists.Given.{IsEndsOf}
use Rattle.ospf_graph.specs.EdgeLists.Listed.{advertisements_of}
use Rattle.ospf_graph.specs.declared.edges.end.End.{End}
use Rattle.ospf_graph.proofs.WalkLaw.{has_hop}
use Rattle.ospf_graph.specs.Graph.{IsEdge}
use Rattle.ospf_graph.specs.Routes.{IsTable}
use Rattle.ospf_graph.specs.Search.{AtIn, StartsIn}
use Rattle.ospf_graph.specs.declared.graph.Vertex.TheVariants.{Router}
use Rattle.ospf_graph.specs.declared.route.Route.{Route}
use Rattle.ospf_router.specs.Growing.{GrowingValue}
use Rattle.ospf_router.proofs.GrowingLemmas.{own_tree, tree_as}
use Rattle.ospf_router.proofs.growing.GrowingTree.routes.Goals as goal
use Rattle.ospf_router.proofs.growing.GrowingTree.routes.Goals.{In_ok-routes}

-- the same members in another order
same_members : {X : Type 0} (xs ys : List X) → IsPermutation xs ys → (x : X) → Contains xs x ↔ Contains ys x
same_members xs ys same x = (λ m. Contains-permutation _ _ x same m, λ m. Contains-permutation _ _ x (IsPermutation-sym _ _ same) m)

own : (c : In_ok-routes) → IsTable (advertisements_of c.self.inside.listing) c.self.inside.root c.in_ok-routes.routes.items
own c =
    let t = c.self.inside in
    let told = c.in_ok-paths.ensures in
    let p = c.in_ok-paths.paths in
    let settled = same_members t.paths.settled p.settled.items told.settled in
    let starts = same_members t.paths.starts p.starts.items told.starts in
    let ends = subst (λ (es : List End). IsEndsOf (advertisements_of t.listing) es) (sym c.deref.ensures.value) c.self.invariant.ends_are in
    c.in_ok-routes.ensures (advertisements_of t.listing) t.root (c.is_listed.ensures.0 (search rules))
    (tree_as (IsEdge (advertisements_of t.listing)) (Router t.root) (AtIn t.paths.settled) (AtIn p.settled.items) (StartsIn t.paths.starts) (StartsIn p.starts.items)
    (λ v d. settled (record { vertex = v; distance = d })) (λ v x. starts (record { vertex = v; start = x })) (own_tree t.root t.listing t.paths t.ends.items c.self.invariant))
    (λ e d at. ends e)

pub of_routes-requires : goal.of_routes-requires
of_routes-requires c =
    let table = own c in
    record { in_order = table.in_order; have_hops = λ k d lt. has_hop (advertisements_of c.self.inside.listing) c.self.inside.root (get_or c.in_ok-routes.routes.items k d) (table.sound k d lt) }

pub returns : goal.returns
returns c =
    let is : IsTable (advertisements_of c.self.inside.listing) c.self.inside.root c.of_routes.result =
    subst (λ (t : List Route). IsTable (advertisements_of c.self.inside.listing) c.self.inside.root t) (sym c.of_routes.ensures) (own (goal.at.returns c).In_ok-routes) in
    subst (λ (v : GrowingValue). IsTable (advertisements_of v.listing) v.root c.of_routes.result) c.self.view_is is
