use Rattle.std.proofs.Common.{◌≡◌, ◌≤◌, ℕ, List, length, take, subst, ◌∙◌, arith}
use Rattle.std.proofs.lemmas.List.{take_all}
use Rattle.ospf_graph.specs.EdgeLists.Listed.{advertisement_of, advertisements_of}
use Rattle.ospf_graph.specs.Adds.{Adds}
use Rattle.ospf_graph.specs.EdgeLists.Given.{EndsOf}
use Rattle.ospf_graph.proofs.EdgeLists.AddsLemmas.{GivenBy, adds_next, adds_start}
use Rattle.ospf_graph.proofs.EdgeLists.GivenLemmas.{ends_are}
use Rattle.ospf_graph.proofs.edges.ends.ends_of.Goals as goal

pub loop-lsa-init : goal.loop-lsa-init
loop-lsa-init c = adds_start (λ lsa. EndsOf (advertisements_of c.args.listing.now) (advertisement_of lsa)) c.new-ends.result.items

pub loop-lsa-preserved : goal.loop-lsa-preserved
loop-lsa-preserved c =
    adds_next (λ lsa. EndsOf (advertisements_of c.args.listing.now) (advertisement_of lsa)) c.lsas-lsa-items.result.now c.loop-lsa.lsa-index c.lsa-item.result
    c.new-ends.result.items c.loop-lsa.ends.items c.add_ends.new.ends.items c.loop-lsa-test.true c.lsa-item.is c.loop-lsa.invariant c.in_ok-add_ends.ensures

pub returns : goal.returns
returns c =
    let end : length c.lsas-lsa-items.result.now ≤ c.loop-lsa.lsa-index = omega (arith, c.loop-lsa-test.false) in
    let all : take c.loop-lsa.lsa-index c.lsas-lsa-items.result.now ≡ c.args.listing.now = take_all c.loop-lsa.lsa-index c.lsas-lsa-items.result.now end ∙ c.lsas-lsa-items.ensures.lsas in
    ends_are c.args.listing.now c.loop-lsa.ends.items
    (subst (λ (old : List _). Adds (GivenBy (λ lsa. EndsOf (advertisements_of c.args.listing.now) (advertisement_of lsa)) c.args.listing.now) old c.loop-lsa.ends.items) c.new-ends.ensures.items
    (subst (λ (ls : List (List ℕ)). Adds (GivenBy (λ lsa. EndsOf (advertisements_of c.args.listing.now) (advertisement_of lsa)) ls) c.new-ends.result.items c.loop-lsa.ends.items) all c.loop-lsa.invariant))
