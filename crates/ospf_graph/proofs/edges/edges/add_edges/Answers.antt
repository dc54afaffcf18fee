use Rattle.std.proofs.Common.{◌≡◌, ℕ, List, refl, ap, subst, ◌∙◌}
use Rattle.ospf_base.specs.Bytes.{number_at}
use Rattle.ospf_base.specs.declared.ids.LsaKey.{LsaKey}
use Rattle.ospf_base.specs.declared.ids.RouterId.{RouterId}
use Rattle.ospf_lsa.specs.Lsa.{IsRouterLsa, IsNetworkLsa, links_of, attached_of, network_mask_of}
use Rattle.ospf_graph.specs.Adds.{Adds}
use Rattle.ospf_graph.specs.EdgeLists.Given.{AttachedGives, EdgesOf}
use Rattle.ospf_graph.proofs.EdgeLists.AddsLemmas.{GivenBy}
use Rattle.ospf_graph.proofs.EdgeLists.GivenLemmas.{as_router, as_network, members_add, no_members}
use Rattle.ospf_graph.proofs.edges.edges.add_edges.Goals as goal

pub returns-in_ok-add_links-in-Router-clause-added : goal.returns-in_ok-add_links-in-Router-clause-added
returns-in_ok-add_links-in-Router-clause-added c =
    let same = c.view-view.ensures.same in
    let names : c.key-key.result.router.0 ≡ number_at 8 4 c.args.lsa.now = ap (λ (k : LsaKey). k.router.0) c.key-key.ensures ∙ ap (λ (l : List ℕ). number_at 8 4 l) same in
    let links = c.links.ensures ∙ ap links_of same in
    as_router (EdgesOf c.args.index.now) c.args.lsa.now c.args.edges.now.items c.add_links.new.edges.items c.key-key.result.router c.links.result
    (subst (λ (l : List ℕ). IsRouterLsa l) same (c.in-Router.ensures.router refl)) names links c.in_ok-add_links-in-Router.ensures.added

pub returns-in_ok-add_members-in-Network-clause-added : goal.returns-in_ok-add_members-in-Network-clause-added
returns-in_ok-add_members-in-Network-clause-added c =
    let same = c.view-view.ensures.same in
    let A = c.args.index.now in
    let id : c.key-key.result.id ≡ number_at 4 4 c.args.lsa.now = ap (λ (k : LsaKey). k.id) c.key-key.ensures ∙ ap (λ (l : List ℕ). number_at 4 4 l) same in
    let names : c.key-key.result.router.0 ≡ number_at 8 4 c.args.lsa.now = ap (λ (k : LsaKey). k.router.0) c.key-key.ensures ∙ ap (λ (l : List ℕ). number_at 8 4 l) same in
    let members = c.attached.ensures ∙ ap attached_of same in
    as_network (EdgesOf A) c.args.lsa.now c.args.edges.now.items c.add_members.new.edges.items c.key-key.result.id c.key-key.result.router
    (subst (λ (l : List ℕ). IsNetworkLsa l) same (c.in-Network.ensures.network refl)) id names
    (members_add A c.key-key.result.id c.key-key.result.router (network_mask_of c.args.lsa.now) (attached_of c.args.lsa.now) c.args.edges.now.items c.add_members.new.edges.items
    (c.stands_for.ensures.0 c.if-stands_for.true)
    (subst (λ (rs : List RouterId). Adds (GivenBy (AttachedGives A c.key-key.result.id) rs) c.args.edges.now.items c.add_members.new.edges.items) members c.in_ok-add_members-in-Network.ensures.added))

pub returns-else-stands_for-clause-added : goal.returns-else-stands_for-clause-added
returns-else-stands_for-clause-added c =
    let same = c.view-view.ensures.same in
    let A = c.args.index.now in
    let id : c.key-key.result.id ≡ number_at 4 4 c.args.lsa.now = ap (λ (k : LsaKey). k.id) c.key-key.ensures ∙ ap (λ (l : List ℕ). number_at 4 4 l) same in
    let names : c.key-key.result.router.0 ≡ number_at 8 4 c.args.lsa.now = ap (λ (k : LsaKey). k.router.0) c.key-key.ensures ∙ ap (λ (l : List ℕ). number_at 8 4 l) same in
    as_network (EdgesOf A) c.args.lsa.now c.args.edges.now.items c.args.edges.now.items c.key-key.result.id c.key-key.result.router
    (subst (λ (l : List ℕ). IsNetworkLsa l) same (c.in-Network.ensures.network refl)) id names
    (no_members A c.key-key.result.id c.key-key.result.router (network_mask_of c.args.lsa.now) (attached_of c.args.lsa.now) c.args.edges.now.items
    (λ stands. let yes = c.stands_for.ensures.1 stands in cc))
