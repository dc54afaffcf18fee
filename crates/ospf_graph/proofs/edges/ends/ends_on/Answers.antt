use Rattle.std.proofs.Common.{◌≡◌, List, [], ℕ, ap, subst, sym, ◌∙◌}
use Rattle.ospf_lsa.specs.Lsa.{IsNetworkLsa, attached_of, network_mask_of}
use Rattle.ospf_graph.specs.declared.graph.Vertex.TheVariants.{Network}
use Rattle.ospf_graph.specs.Adds.{Adds}
use Rattle.ospf_graph.specs.EdgeLists.Given.{AreEndsAt, NetworkGives}
use Rattle.ospf_graph.specs.EdgeLists.Listed.{advertisements_of}
use Rattle.ospf_graph.specs.declared.edges.end.End.{End}
use Rattle.ospf_graph.proofs.EdgeLists.ListedLemmas.{network_found, network_none, network_same}
use Rattle.ospf_graph.proofs.EdgeLists.VertexLemmas.{ends_by_mask, no_network_end}
use Rattle.ospf_graph.proofs.edges.ends.ends_on.Goals as goal

pub mask-requires : goal.mask-requires
mask-requires c =
    subst (λ (l : List ℕ). IsNetworkLsa l) (sym c.view.ensures.same) c.in-Some.ensures.found.of.0

pub returns-in_ok-add_network-in-Some : goal.returns-in_ok-add_network-in-Some
returns-in_ok-add_network-in-Some c =
    let lsas = c.args.listing.now in
    let lsa = c.in-Some.lsa.now in
    let is = c.network.ensures.listing in
    let top = c.in-Some.ensures.found in
    let mask : c.mask.result ≡ network_mask_of lsa = c.mask.ensures.value ∙ ap network_mask_of c.view.ensures.same in
    let added = subst (λ (old : List End). Adds (NetworkGives c.args.id c.mask.result) old c.add_network.new.ends.items) c.new-ends.ensures.items c.in_ok-add_network-in-Some.ensures in
    ends_by_mask (advertisements_of lsas) c.args.id (network_mask_of lsa) (attached_of lsa) (network_found lsas is c.args.id lsa top) (λ m others w. (network_same lsas is c.args.id lsa top m others w).0)
    c.add_network.new.ends.items (subst (λ (m : ℕ). Adds (NetworkGives c.args.id m) [] c.add_network.new.ends.items) mask added)

pub returns-in-None : goal.returns-in-None
returns-in-None c =
    let A = advertisements_of c.args.listing.now in
    subst (λ (ends : List End). AreEndsAt A (Network c.args.id) ends) (sym c.new-ends.ensures.items) (no_network_end A c.args.id (network_none c.args.listing.now c.network.ensures.listing c.args.id c.in-None.ensures.none))
