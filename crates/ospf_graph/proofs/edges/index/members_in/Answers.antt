use Rattle.std.proofs.Common.{◌≡◌, ◌≤◌, ℕ, List, length, take, subst, ◌∙◌, arith}
use Rattle.std.proofs.lemmas.List.{take_all}
use Rattle.ospf_graph.specs.EdgeLists.Index.{MembersOf}
use Rattle.ospf_graph.specs.EdgeLists.Listed.{advertisement_of, advertisements_of}
use Rattle.ospf_graph.specs.Adds.{Adds}
use Rattle.ospf_graph.proofs.EdgeLists.AddsLemmas.{GivenBy, adds_next, adds_start}
use Rattle.ospf_graph.proofs.EdgeLists.IndexLemmas.{members_are}
use Rattle.ospf_graph.proofs.edges.index.members_in.Goals as goal

pub loop-lsa-init : goal.loop-lsa-init
loop-lsa-init c = adds_start (λ lsa. MembersOf (advertisements_of c.args.listing.now) (advertisement_of lsa)) c.new-pairs.result.items

pub loop-lsa-preserved : goal.loop-lsa-preserved
loop-lsa-preserved c =
    adds_next (λ lsa. MembersOf (advertisements_of c.args.listing.now) (advertisement_of lsa)) c.lsas-lsa-items.result.now c.loop-lsa.lsa-index c.lsa-item.result
    c.new-pairs.result.items c.loop-lsa.pairs.items c.push_named.new.pairs.items c.loop-lsa-test.true c.lsa-item.is c.loop-lsa.invariant c.in_ok-push_named.ensures

pub returns : goal.returns
returns c =
    let end : length c.lsas-lsa-items.result.now ≤ c.loop-lsa.lsa-index = omega (arith, c.loop-lsa-test.false) in
    let all : take c.loop-lsa.lsa-index c.lsas-lsa-items.result.now ≡ c.args.listing.now = take_all c.loop-lsa.lsa-index c.lsas-lsa-items.result.now end ∙ c.lsas-lsa-items.ensures.lsas in
    members_are c.args.listing.now c.lsas-lsa-items.ensures.listing c.of.result c.loop-lsa.pairs.items c.of.ensures
    (subst (λ (old : List ℕ). Adds (GivenBy (λ lsa. MembersOf (advertisements_of c.args.listing.now) (advertisement_of lsa)) c.args.listing.now) old c.loop-lsa.pairs.items) c.new-pairs.ensures.items
    (subst (λ (ls : List (List ℕ)). Adds (GivenBy (λ lsa. MembersOf (advertisements_of c.args.listing.now) (advertisement_of lsa)) ls) c.new-pairs.result.items c.loop-lsa.pairs.items) all c.loop-lsa.invariant))
