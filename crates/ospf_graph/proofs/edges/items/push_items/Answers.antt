use Rattle.std.proofs.Common.{◌≡◌, ◌++◌, ◌∷◌, [], List, ℕ, refl, sym, ap, subst, ◌∙◌, append_assoc}
use Rattle.ospf_base.specs.Bytes.{number_at}
use Rattle.ospf_base.specs.declared.ids.LsaKey.{LsaKey}
use Rattle.ospf_lsa.specs.Lsa.{IsRouterLsa, IsNetworkLsa, links_of, attached_of, network_mask_of}
use Rattle.ospf_graph.specs.EdgeLists.Items.{link_items, attached_items}
use Rattle.ospf_graph.specs.declared.edges.items.GraphItem.TheVariants as item
use Rattle.ospf_graph.proofs.EdgeLists.ItemLemmas.{items_of_router, items_of_network}
use Rattle.ospf_graph.proofs.edges.items.push_items.Goals as goal

pub returns-in_ok-push_links-in-Router : goal.returns-in_ok-push_links-in-Router
returns-in_ok-push_links-in-Router c =
    let same = c.view-view.ensures.same in
    let names : c.key-key.result.router.0 ≡ number_at 8 4 c.args.lsa.now = ap (λ (k : LsaKey). k.router.0) c.key-key.ensures ∙ ap (λ (l : List ℕ). number_at 8 4 l) same in
    let is = items_of_router c.args.lsa.now c.key-key.result.router c.links.result (subst (λ (l : List ℕ). IsRouterLsa l) same (c.in-Router.ensures.router refl)) names
    (c.links.ensures ∙ ap links_of same) in
    c.in_ok-push_links-in-Router.ensures ∙ ap (λ l. l ++ link_items c.links.result) c.in_ok-push-in-Router.ensures.items
    ∙ append_assoc c.args.items.now.items (item.Router c.key-key.result.router ∷ []) (link_items c.links.result) ∙ ap (λ l. c.args.items.now.items ++ l) (sym is)

pub returns-in_ok-push_attached-in-Network : goal.returns-in_ok-push_attached-in-Network
returns-in_ok-push_attached-in-Network c =
    let same = c.view-view.ensures.same in
    let id : c.key-key.result.id ≡ number_at 4 4 c.args.lsa.now = ap (λ (k : LsaKey). k.id) c.key-key.ensures ∙ ap (λ (l : List ℕ). number_at 4 4 l) same in
    let names : c.key-key.result.router.0 ≡ number_at 8 4 c.args.lsa.now = ap (λ (k : LsaKey). k.router.0) c.key-key.ensures ∙ ap (λ (l : List ℕ). number_at 8 4 l) same in
    let mask : c.mask-mask.result ≡ network_mask_of c.args.lsa.now = c.mask-mask.ensures.value ∙ ap network_mask_of same in
    let is = items_of_network c.args.lsa.now c.key-key.result.id c.key-key.result.router c.mask-mask.result c.attached.result
    (subst (λ (l : List ℕ). IsNetworkLsa l) same (c.in-Network.ensures.network refl)) id names mask (c.attached.ensures ∙ ap attached_of same) in
    c.in_ok-push_attached-in-Network.ensures ∙ ap (λ l. l ++ attached_items c.attached.result) c.in_ok-push-in-Network.ensures.items
    ∙ append_assoc c.args.items.now.items (item.Network c.key-key.result.id c.key-key.result.router c.mask-mask.result ∷ []) (attached_items c.attached.result)
    ∙ ap (λ l. c.args.items.now.items ++ l) (sym is)
