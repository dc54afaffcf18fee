use Rattle.std.proofs.Common.{◌≡◌, ℕ, List, refl, ap, subst, ◌∙◌}
use Rattle.ospf_base.specs.Bytes.{number_at}
use Rattle.ospf_base.specs.declared.ids.LsaKey.{LsaKey}
use Rattle.ospf_lsa.specs.Lsa.{IsRouterLsa, IsNetworkLsa, links_of, attached_of, network_mask_of}
use Rattle.ospf_graph.specs.EdgeLists.Listed.{advertisements_of}
use Rattle.ospf_graph.specs.Adds.{Adds}
use Rattle.ospf_graph.specs.EdgeLists.Given.{NetworkGives, EndsOf}
use Rattle.ospf_graph.proofs.EdgeLists.GivenLemmas.{as_router, as_network, network_adds, no_network}
use Rattle.ospf_graph.proofs.edges.ends.add_ends.Goals as goal

pub returns-in_ok-add_stubs-in-Router : goal.returns-in_ok-add_stubs-in-Router
returns-in_ok-add_stubs-in-Router c =
    let same = c.view-view.ensures.same in
    let names : c.key-key.result.router.0 ≡ number_at 8 4 c.args.lsa.now = ap (λ (k : LsaKey). k.router.0) c.key-key.ensures ∙ ap (λ (l : List ℕ). number_at 8 4 l) same in
    let links = c.links.ensures ∙ ap links_of same in
    as_router (EndsOf (advertisements_of c.args.listing.now)) c.args.lsa.now c.args.ends.now.items c.add_stubs.new.ends.items c.key-key.result.router c.links.result
    (subst (λ (l : List ℕ). IsRouterLsa l) same (c.in-Router.ensures.router refl)) names links c.in_ok-add_stubs-in-Router.ensures

pub returns-in_ok-add_network-in-Network : goal.returns-in_ok-add_network-in-Network
returns-in_ok-add_network-in-Network c =
    let same = c.view-view.ensures.same in
    let A = advertisements_of c.args.listing.now in
    let id : c.key-key.result.id ≡ number_at 4 4 c.args.lsa.now = ap (λ (k : LsaKey). k.id) c.key-key.ensures ∙ ap (λ (l : List ℕ). number_at 4 4 l) same in
    let names : c.key-key.result.router.0 ≡ number_at 8 4 c.args.lsa.now = ap (λ (k : LsaKey). k.router.0) c.key-key.ensures ∙ ap (λ (l : List ℕ). number_at 8 4 l) same in
    let mask : c.mask.result ≡ network_mask_of c.args.lsa.now = c.mask.ensures.value ∙ ap network_mask_of same in
    as_network (EndsOf A) c.args.lsa.now c.args.ends.now.items c.add_network.new.ends.items c.key-key.result.id c.key-key.result.router
    (subst (λ (l : List ℕ). IsNetworkLsa l) same (c.in-Network.ensures.network refl)) id names
    (network_adds A c.key-key.result.id c.key-key.result.router (network_mask_of c.args.lsa.now) (attached_of c.args.lsa.now) c.args.ends.now.items c.add_network.new.ends.items
    (c.stands_for.ensures.0 c.if-stands_for.true)
    (subst (λ (m : ℕ). Adds (NetworkGives c.key-key.result.id m) c.args.ends.now.items c.add_network.new.ends.items) mask c.in_ok-add_network-in-Network.ensures))

pub returns-else-stands_for : goal.returns-else-stands_for
returns-else-stands_for c =
    let same = c.view-view.ensures.same in
    let A = advertisements_of c.args.listing.now in
    let id : c.key-key.result.id ≡ number_at 4 4 c.args.lsa.now = ap (λ (k : LsaKey). k.id) c.key-key.ensures ∙ ap (λ (l : List ℕ). number_at 4 4 l) same in
    let names : c.key-key.result.router.0 ≡ number_at 8 4 c.args.lsa.now = ap (λ (k : LsaKey). k.router.0) c.key-key.ensures ∙ ap (λ (l : List ℕ). number_at 8 4 l) same in
    as_network (EndsOf A) c.args.lsa.now c.args.ends.now.items c.args.ends.now.items c.key-key.result.id c.key-key.result.router
    (subst (λ (l : List ℕ). IsNetworkLsa l) same (c.in-Network.ensures.network refl)) id names
    (no_network A c.key-key.result.id c.key-key.result.router (network_mask_of c.args.lsa.now) (attached_of c.args.lsa.now) c.args.ends.now.items
    (λ stands. let yes = c.stands_for.ensures.1 stands in cc))
