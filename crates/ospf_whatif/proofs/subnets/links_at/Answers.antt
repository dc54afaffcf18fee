use Rattle.std.proofs.Common.{◌≡◌, List, ℕ, sym, ap, subst, ◌∙◌}
use Rattle.ospf_lsa.specs.declared.link.Link.{Link}
use Rattle.ospf_lsa.specs.Lsa.{IsRouterLsa, links_of}
use Rattle.ospf_graph.specs.EdgeLists.Addresses.{links_by}
use Rattle.ospf_graph.specs.EdgeLists.Listed.{advertisements_of}
use Rattle.ospf_graph.specs.EdgeLists.Near.{AreLinksBy}
use Rattle.ospf_graph.proofs.EdgeLists.ListedLemmas.{keyed_router, router_found, router_only, router_none}
use Rattle.ospf_whatif.specs.Subnets.{HaveSame}
use Rattle.ospf_whatif.proofs.SubnetLemmas.{links_are_by, none_are_by}
use Rattle.ospf_whatif.proofs.WithoutLemmas.{IfOk-map}
use Rattle.ospf_whatif.proofs.subnets.links_at.Goals as goal

pub links-requires : goal.links-requires
links-requires c =
    let found = c.in-Some.ensures.found in
    subst (λ (l : List ℕ). IsRouterLsa l) (sym c.view-view.ensures.same)
    (keyed_router c.args.listing.now c.router.ensures.listing c.args.router c.in-Some.lsa.now found.0 found.1)

pub returns-in-Some : goal.returns-in-Some
returns-in-Some c =
    let found = c.in-Some.ensures.found in
    let lsas = c.args.listing.now in
    let links : links_of c.in-Some.lsa.now ≡ c.links.result = sym (c.links.ensures ∙ ap links_of c.view-view.ensures.same) in
    let here : AreLinksBy (advertisements_of lsas) c.args.router (links_of c.in-Some.lsa.now) =
    record {
      listed = router_found lsas c.router.ensures.listing c.args.router c.in-Some.lsa.now found.0 found.1;
      only = router_only lsas c.router.ensures.listing c.args.router c.in-Some.lsa.now found.0 found.1;
    } in
    IfOk-map c.listed.result _ _ c.listed.ensures
    (λ all is. subst (λ (l : List Link). HaveSame l (links_by c.args.router (advertisements_of lsas))) (links ∙ sym is) (links_are_by (advertisements_of lsas) c.args.router (links_of c.in-Some.lsa.now) here))

pub returns-in-None : goal.returns-in-None
returns-in-None c =
    none_are_by (advertisements_of c.args.listing.now) c.args.router (router_none c.args.listing.now c.router.ensures.listing c.args.router c.in-None.ensures.none) c.new.result.items c.new.ensures.items
