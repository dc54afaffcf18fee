use Rattle.std.proofs.Common.{◌≡◌, List, ℕ, sym, ap, subst, ◌∙◌}
use Rattle.ospf_base.specs.declared.ids.RouterId.{RouterId}
use Rattle.ospf_lsa.specs.Lsa.{IsNetworkLsa, attached_of, network_mask_of}
use Rattle.ospf_graph.specs.EdgeLists.Listed.{advertisements_of}
use Rattle.ospf_graph.specs.EdgeLists.Near.{AreAttachedTo}
use Rattle.ospf_graph.proofs.EdgeLists.ListedLemmas.{network_found, network_only, network_none}
use Rattle.ospf_graph.proofs.edges.lookups.attached_to.Goals as goal

pub attached-requires : goal.attached-requires
attached-requires c =
    subst (λ (l : List ℕ). IsNetworkLsa l) (sym c.view-view.ensures.same) c.in-Some.ensures.found.of.0

pub returns-in-Some-clause-found : goal.returns-in-Some-clause-found
returns-in-Some-clause-found c =
    let lsas = c.args.listing.now in
    let top = c.in-Some.ensures.found in
    let members : attached_of c.in-Some.lsa.now ≡ c.attached.result = sym (c.attached.ensures ∙ ap attached_of c.view-view.ensures.same) in
    let here : AreAttachedTo (advertisements_of lsas) c.args.id (attached_of c.in-Some.lsa.now) =
    record {
      mask = network_mask_of c.in-Some.lsa.now;
      network = network_found lsas c.network.ensures.listing c.args.id c.in-Some.lsa.now top;
      only = network_only lsas c.network.ensures.listing c.args.id c.in-Some.lsa.now top;
    } in
    subst (λ (l : List RouterId). AreAttachedTo (advertisements_of lsas) c.args.id l) members here

pub returns-in-None-clause-none : goal.returns-in-None-clause-none
returns-in-None-clause-none c = network_none c.args.listing.now c.network.ensures.listing c.args.id c.in-None.ensures.none
