use Rattle.std.proofs.Common.{◌≡◌, ◌≤◌, ℕ, List, length, map, nat_eq, take, subst, ◌∙◌, arith}
use Rattle.std.proofs.lemmas.List.{take_all}
use Rattle.std.specs.HashMap.{get}
use Rattle.ospf_graph.specs.EdgeLists.Listed.{advertisement_of, advertisements_of}
use Rattle.ospf_graph.proofs.EdgeLists.AddressLemmas.{addresses_on, told_next, AreAddresses}
use Rattle.ospf_graph.proofs.edges.addresses.addresses_in.Goals as goal

pub loop-lsa-preserved : goal.loop-lsa-preserved
loop-lsa-preserved c =
    told_next c.lsas-lsa-items.result.now c.loop-lsa.lsa-index c.lsa-item.result c.loop-lsa-test.true c.lsa-item.is
    (get nat_eq c.loop-lsa.addresses) (get nat_eq c.add_told.new.addresses) c.loop-lsa.invariant c.in_ok-add_told.ensures

pub returns : goal.returns
unfolding advertisements_of
returns c =
    let end : length c.lsas-lsa-items.result.now ≤ c.loop-lsa.lsa-index = omega (arith, c.loop-lsa-test.false) in
    let all : take c.loop-lsa.lsa-index c.lsas-lsa-items.result.now ≡ c.args.listing.now = take_all c.loop-lsa.lsa-index c.lsas-lsa-items.result.now end ∙ c.lsas-lsa-items.ensures.lsas in
    addresses_on c.args.listing.now c.lsas-lsa-items.ensures.listing (get nat_eq c.loop-lsa.addresses)
    (subst (λ (ls : List (List ℕ)). AreAddresses (map advertisement_of ls) (get nat_eq c.loop-lsa.addresses)) all c.loop-lsa.invariant)
