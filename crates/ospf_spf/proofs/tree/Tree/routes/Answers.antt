use Rattle.std.proofs.Common.{rules, List, get_or, sym, subst, ◌∙◌, ap}
use Rattle.ospf_base.specs.declared.ids.RouterId.{RouterId}
use Rattle.ospf_graph.specs.declared.route.Route.{Route}
use Rattle.ospf_graph.specs.Routes.{IsTable}
use Rattle.ospf_graph.proofs.WalkLaw.{has_hop}
use Rattle.ospf_graph.specs.declared.edges.end.End.{End}
use Rattle.ospf_graph.specs.EdgeLists.Listed.{advertisements_of}
use Rattle.ospf_graph.specs.EdgeLists.Given.{IsEndsOf}
use Rattle.ospf_spf.proofs.KeptLemmas.{tree_for}
use Rattle.ospf_spf.proofs.tree.Tree.routes.Goals as goal
use Rattle.ospf_spf.proofs.tree.Tree.routes.Goals.{In_ok-routes}

exact : (c : In_ok-routes) → IsTable (advertisements_of c.args.listing.now) c.self.inside.root c.in_ok-routes.routes.items
exact c =
    let A = advertisements_of c.args.listing.now in
    c.in_ok-routes.ensures A c.self.inside.root (c.is_listed.ensures.0 (search rules))
    (tree_for c.self.inside.items.items c.self.inside.root c.self.inside.paths c.self.invariant A (c.requires.holds ∙ sym (ap (λ t. t.graph) c.self.view_is)))
    (λ e d at. subst (λ (ends : List End). IsEndsOf A ends) (sym c.deref.ensures.value) c.in_ok-ends.ensures e)

pub of_routes-requires : goal.of_routes-requires
of_routes-requires c =
    let table = exact c in
    record { in_order = table.in_order; have_hops = λ k d lt. has_hop (advertisements_of c.args.listing.now) c.self.inside.root (get_or c.in_ok-routes.routes.items k d) (table.sound k d lt) }

pub returns : goal.returns
returns c =
    let A = advertisements_of c.args.listing.now in
    subst (λ (r : RouterId). IsTable A r c.of_routes.result) (ap (λ t. t.root) c.self.view_is)
    (subst (λ (t : List Route). IsTable A c.self.inside.root t) (sym c.of_routes.ensures) (exact (goal.at.returns c).In_ok-routes))
