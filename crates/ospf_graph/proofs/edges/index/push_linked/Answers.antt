use Rattle.std.proofs.Common.{◌≡◌, ℕ, List, refl, ap, subst, ◌∙◌}
use Rattle.ospf_base.specs.Bytes.{number_at}
use Rattle.ospf_base.specs.declared.ids.LsaKey.{LsaKey}
use Rattle.ospf_lsa.specs.Lsa.{IsRouterLsa, IsNetworkLsa, links_of}
use Rattle.ospf_graph.specs.EdgeLists.Index.{LinksOf}
use Rattle.ospf_graph.proofs.EdgeLists.IndexLemmas.{no_links_of}
use Rattle.ospf_graph.proofs.EdgeLists.GivenLemmas.{as_router}
use Rattle.ospf_graph.proofs.edges.index.push_linked.Goals as goal

pub returns-in_ok-push_links-in-Router : goal.returns-in_ok-push_links-in-Router
returns-in_ok-push_links-in-Router c =
    let same = c.view-view.ensures.same in
    let names : c.key.result.router.0 ≡ number_at 8 4 c.args.lsa.now = ap (λ (k : LsaKey). k.router.0) c.key.ensures ∙ ap (λ (l : List ℕ). number_at 8 4 l) same in
    let links = c.links.ensures ∙ ap links_of same in
    as_router LinksOf c.args.lsa.now c.args.pairs.now.items c.push_links.new.pairs.items c.key.result.router c.links.result
    (subst (λ (l : List ℕ). IsRouterLsa l) same (c.in-Router.ensures.router refl)) names links c.in_ok-push_links-in-Router.ensures

pub returns-in-Network : goal.returns-in-Network
returns-in-Network c =
    no_links_of c.args.lsa.now c.args.pairs.now.items (subst (λ (l : List ℕ). IsNetworkLsa l) c.view-view.ensures.same (c.in-Network.ensures.network refl))
