use Rattle.std.proofs.Common.{◌≡◌, ◌≤◌, ℕ, List, length, map, take, subst, ap, ◌∙◌, arith}
use Rattle.std.proofs.lemmas.List.{take_all}
use Rattle.ospf_graph.specs.Advertisements.{Advertisement}
use Rattle.ospf_graph.specs.EdgeLists.Listed.{advertisement_of, advertisements_of}
use Rattle.ospf_graph.specs.Adds.{Adds}
use Rattle.ospf_graph.specs.EdgeLists.Given.{EdgesOf, link_count}
use Rattle.ospf_graph.specs.EdgeLists.Given.{IsEdgesOf}
use Rattle.ospf_graph.proofs.EdgeLists.FitLemmas.{edges_fit}
use Rattle.ospf_graph.proofs.EdgeLists.AddsLemmas.{GivenBy, adds_next, adds_start}
use Rattle.ospf_graph.proofs.EdgeLists.GivenLemmas.{edges_are, links_more}
use Rattle.ospf_graph.proofs.edges.edges.edges_by.Goals as goal

pub loop-lsa-init : goal.loop-lsa-init
loop-lsa-init c = record { adds = adds_start (λ lsa. EdgesOf (advertisements_of c.args.listing.now) (advertisement_of lsa)) c.new-edges.result.items; few = omega (arith, ap length c.new-edges.ensures.items) }

pub loop-lsa-preserved : goal.loop-lsa-preserved
loop-lsa-preserved c = record {
  adds =
      adds_next (λ lsa. EdgesOf (advertisements_of c.args.listing.now) (advertisement_of lsa)) c.lsas-lsa-items.result.now c.loop-lsa.lsa-index c.lsa-item.result
      c.new-edges.result.items c.loop-lsa.edges.items c.add_edges.new.edges.items c.loop-lsa-test.true c.lsa-item.is c.loop-lsa.invariant.adds (subst (λ (A : List Advertisement). Adds (EdgesOf A (advertisement_of c.lsa-item.result)) c.loop-lsa.edges.items c.add_edges.new.edges.items) c.requires.same c.in_ok-add_edges.ensures.added);
  few =
      let before = c.loop-lsa.invariant.few in
      let one = c.in_ok-add_edges.ensures.few in
      omega (arith, links_more c.lsas-lsa-items.result.now c.loop-lsa.lsa-index c.lsa-item.result c.loop-lsa-test.true c.lsa-item.is);
}

exact : (c : goal.After-loop-lsa) → IsEdgesOf (advertisements_of c.args.listing.now) c.loop-lsa.edges.items
exact c =
    let end : length c.lsas-lsa-items.result.now ≤ c.loop-lsa.lsa-index = omega (arith, c.loop-lsa-test.false) in
    let all : take c.loop-lsa.lsa-index c.lsas-lsa-items.result.now ≡ c.args.listing.now = take_all c.loop-lsa.lsa-index c.lsas-lsa-items.result.now end ∙ c.lsas-lsa-items.ensures.lsas in
    edges_are c.args.listing.now c.loop-lsa.edges.items
    (subst (λ (old : List _). Adds (GivenBy (λ lsa. EdgesOf (advertisements_of c.args.listing.now) (advertisement_of lsa)) c.args.listing.now) old c.loop-lsa.edges.items) c.new-edges.ensures.items
    (subst (λ (ls : List (List ℕ)). Adds (GivenBy (λ lsa. EdgesOf (advertisements_of c.args.listing.now) (advertisement_of lsa)) ls) c.new-edges.result.items c.loop-lsa.edges.items) all c.loop-lsa.invariant.adds))

pub returns-clause-edges : goal.returns-clause-edges
returns-clause-edges c = exact c

pub returns-clause-fit : goal.returns-clause-fit
returns-clause-fit c = edges_fit c.args.listing.now c.lsas-lsa-items.ensures.listing c.loop-lsa.edges.items (exact c)

pub returns-clause-few : goal.returns-clause-few
unfolding advertisements_of
returns-clause-few c =
    let end : length c.lsas-lsa-items.result.now ≤ c.loop-lsa.lsa-index = omega (arith, c.loop-lsa-test.false) in
    let all : take c.loop-lsa.lsa-index c.lsas-lsa-items.result.now ≡ c.args.listing.now = take_all c.loop-lsa.lsa-index c.lsas-lsa-items.result.now end ∙ c.lsas-lsa-items.ensures.lsas in
    subst (λ (ls : List (List ℕ)). length c.loop-lsa.edges.items ≤ link_count (map advertisement_of ls)) all c.loop-lsa.invariant.few
