use Rattle.std.proofs.Common.{◌≡◌}
use Rattle.ospf_graph.specs.declared.graph.Edge.{Edge}
use Rattle.ospf_graph.specs.Adds.{Adds}
use Rattle.ospf_graph.specs.EdgeLists.Listed.{advertisements_of}
use Rattle.ospf_graph.specs.EdgeLists.Near.{Returns, edge_to}
use Rattle.ospf_graph.proofs.EdgeLists.AddsLemmas.{adds_both, adds_push}
use Rattle.ospf_graph.proofs.EdgeLists.NearLemmas.{near_link_as}
use Rattle.ospf_graph.proofs.edges.near.add_near_link.Goals as goal

pub returns-in_ok-add_returns : goal.returns-in_ok-add_returns
returns-in_ok-add_returns c =
    let A = advertisements_of c.args.listing.now in
    let r = c.args.router in
    let to = c.in-Some.to in
    let old = c.args.edges.now.items in
    let mid = c.push.new.self.items in
    let new = c.add_returns.new.edges.items in
    let edge : Edge = edge_to r to c.args.link in
    let pushed : Adds (λ e. edge ≡ e) old mid =
    rw (c.in_ok-push.ensures.items, c.edge_to.ensures) (adds_push (λ e. edge ≡ e) old edge (λ e. ((λ same. same), (λ same. same)))) in
    near_link_as A r c.args.link to c.in-Some.ensures.found (c.names.ensures.0 c.if-names.true) old new
    (adds_both (λ e. edge ≡ e) (Returns to r A) old mid new pushed c.in_ok-add_returns.ensures)
