use Rattle.std.proofs.Common.{◌≡◌, ℕ, List, refl, ap, subst, ◌∙◌}
use Rattle.ospf_base.specs.Bytes.{number_at}
use Rattle.ospf_base.specs.declared.ids.LsaKey.{LsaKey}
use Rattle.ospf_base.specs.declared.ids.RouterId.{RouterId}
use Rattle.ospf_lsa.specs.Lsa.{IsNetworkLsa, IsRouterLsa, attached_of, network_mask_of}
use Rattle.ospf_graph.specs.EdgeLists.Index.{MembersOf, NamedOn}
use Rattle.ospf_graph.specs.EdgeLists.Listed.{advertisements_of}
use Rattle.ospf_graph.specs.Adds.{Adds}
use Rattle.ospf_graph.proofs.EdgeLists.AddsLemmas.{GivenBy}
use Rattle.ospf_graph.proofs.EdgeLists.IndexLemmas.{named_add, no_members_of, none_named}
use Rattle.ospf_graph.proofs.EdgeLists.GivenLemmas.{as_network}
use Rattle.ospf_graph.proofs.edges.index.push_named.Goals as goal

pub returns-in_ok-push_members-in-Network : goal.returns-in_ok-push_members-in-Network
returns-in_ok-push_members-in-Network c =
    let same = c.view-view.ensures.same in
    let A = advertisements_of c.args.listing.now in
    let id : c.key-key.result.id ≡ number_at 4 4 c.args.lsa.now = ap (λ (k : LsaKey). k.id) c.key-key.ensures ∙ ap (λ (l : List ℕ). number_at 4 4 l) same in
    let names : c.key-key.result.router.0 ≡ number_at 8 4 c.args.lsa.now = ap (λ (k : LsaKey). k.router.0) c.key-key.ensures ∙ ap (λ (l : List ℕ). number_at 8 4 l) same in
    let members = c.attached.ensures ∙ ap attached_of same in
    as_network (MembersOf A) c.args.lsa.now c.args.pairs.now.items c.push_members.new.pairs.items c.key-key.result.id c.key-key.result.router
    (subst (λ (l : List ℕ). IsNetworkLsa l) same (c.in-Network.ensures.network refl)) id names
    (named_add A c.key-key.result.id c.key-key.result.router (network_mask_of c.args.lsa.now) (attached_of c.args.lsa.now) c.args.pairs.now.items c.push_members.new.pairs.items
    (c.stands_for.ensures.0 c.if-stands_for.true)
    (subst (λ (rs : List RouterId). Adds (GivenBy (NamedOn c.key-key.result.id) rs) c.args.pairs.now.items c.push_members.new.pairs.items) members c.in_ok-push_members-in-Network.ensures))

pub returns-else-stands_for : goal.returns-else-stands_for
returns-else-stands_for c =
    let same = c.view-view.ensures.same in
    let A = advertisements_of c.args.listing.now in
    let id : c.key-key.result.id ≡ number_at 4 4 c.args.lsa.now = ap (λ (k : LsaKey). k.id) c.key-key.ensures ∙ ap (λ (l : List ℕ). number_at 4 4 l) same in
    let names : c.key-key.result.router.0 ≡ number_at 8 4 c.args.lsa.now = ap (λ (k : LsaKey). k.router.0) c.key-key.ensures ∙ ap (λ (l : List ℕ). number_at 8 4 l) same in
    as_network (MembersOf A) c.args.lsa.now c.args.pairs.now.items c.args.pairs.now.items c.key-key.result.id c.key-key.result.router
    (subst (λ (l : List ℕ). IsNetworkLsa l) same (c.in-Network.ensures.network refl)) id names
    (none_named A c.key-key.result.id c.key-key.result.router (network_mask_of c.args.lsa.now) (attached_of c.args.lsa.now) c.args.pairs.now.items
    (λ stands. let yes = c.stands_for.ensures.1 stands in cc))

pub returns-in-Router : goal.returns-in-Router
returns-in-Router c =
    no_members_of (advertisements_of c.args.listing.now) c.args.lsa.now c.args.pairs.now.items
    (subst (λ (l : List ℕ). IsRouterLsa l) c.view-view.ensures.same (c.in-Router.ensures.router refl))
