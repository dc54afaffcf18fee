use Rattle.std.proofs.Common.{◌≡◌, ℕ, List, refl, ap, subst, ◌∙◌}
use Rattle.ospf_base.specs.Bytes.{number_at}
use Rattle.ospf_base.specs.declared.ids.LsaKey.{LsaKey}
use Rattle.ospf_lsa.specs.Lsa.{IsRouterLsa, IsNetworkLsa, links_of}
use Rattle.ospf_graph.proofs.EdgeLists.AddsLemmas.{adds_none}
use Rattle.ospf_graph.proofs.EdgeLists.GivenLemmas.{as_router, as_network}
use Rattle.ospf_whatif.specs.Stubs.{StubGivenBy}
use Rattle.ospf_whatif.proofs.stubs.add_stubs_of.Goals as goal

pub returns-in_ok-add_stubs_among-in-Router : goal.returns-in_ok-add_stubs_among-in-Router
returns-in_ok-add_stubs_among-in-Router c =
    let same = c.view-view.ensures.same in
    let names : c.key-key.result.router.0 ≡ number_at 8 4 c.args.lsa.now = ap (λ (k : LsaKey). k.router.0) c.key-key.ensures ∙ ap (λ (l : List ℕ). number_at 8 4 l) same in
    let links : c.deref.result.now ≡ links_of c.args.lsa.now = c.deref.ensures.value ∙ c.in_ok-links-in-Router.ensures ∙ c.links.ensures ∙ ap links_of same in
    as_router StubGivenBy c.args.lsa.now c.args.failures.now.items c.add_stubs_among.new.failures.items c.key-key.result.router c.deref.result.now
    (subst (λ (l : List ℕ). IsRouterLsa l) same (c.in-Router.ensures.router refl)) names links c.in_ok-add_stubs_among-in-Router.ensures

pub returns-in-Network : goal.returns-in-Network
returns-in-Network c =
    let is = subst (λ (l : List ℕ). IsNetworkLsa l) c.view-view.ensures.same (c.in-Network.ensures.network refl) in
    as_network StubGivenBy c.args.lsa.now c.args.failures.now.items c.args.failures.now.items (number_at 4 4 c.args.lsa.now) (record { 0 = number_at 8 4 c.args.lsa.now }) is refl refl
    (adds_none (λ q. ⊥) c.args.failures.now.items (λ q g. g))
