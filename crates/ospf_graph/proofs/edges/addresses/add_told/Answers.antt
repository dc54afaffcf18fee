use Rattle.std.proofs.Common.{◌≡◌, ℕ, List, nat_eq, refl, ap, subst, ◌∙◌}
use Rattle.std.specs.HashMap.{get}
use Rattle.ospf_base.specs.Bytes.{number_at}
use Rattle.ospf_base.specs.declared.ids.LsaKey.{LsaKey}
use Rattle.ospf_lsa.specs.Lsa.{IsRouterLsa, IsNetworkLsa, links_of}
use Rattle.ospf_graph.proofs.EdgeLists.AddressLemmas.{told_router, told_network}
use Rattle.ospf_graph.proofs.edges.addresses.add_told.Goals as goal

pub returns-in_ok-add_addresses-in-Router : goal.returns-in_ok-add_addresses-in-Router
returns-in_ok-add_addresses-in-Router c =
    let same = c.view-view.ensures.same in
    let names : c.key.result.router.0 ≡ number_at 8 4 c.args.lsa.now = ap (λ (k : LsaKey). k.router.0) c.key.ensures ∙ ap (λ (l : List ℕ). number_at 8 4 l) same in
    told_router c.args.lsa.now c.key.result.router c.links.result (get nat_eq c.args.addresses.now) (get nat_eq c.add_addresses.new.addresses)
    (subst (λ (l : List ℕ). IsRouterLsa l) same (c.in-Router.ensures.router refl)) names (c.links.ensures ∙ ap links_of same) c.in_ok-add_addresses-in-Router.ensures

pub returns-in-Network : goal.returns-in-Network
returns-in-Network c =
    told_network c.args.lsa.now (get nat_eq c.args.addresses.now) (subst (λ (l : List ℕ). IsNetworkLsa l) c.view-view.ensures.same (c.in-Network.ensures.network refl))
