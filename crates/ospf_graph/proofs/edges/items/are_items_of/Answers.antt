use Rattle.std.proofs.Common.{◌≡◌, ◌≤◌, ◌+◌, ◌++◌, [], length, take, drop, map, sym, ap, ◌∙◌, arith, append-nil}
use Rattle.std.proofs.lemmas.List.{take_all}
use Rattle.ospf_graph.specs.EdgeLists.Items.{items_of, items_of_all}
use Rattle.ospf_graph.specs.EdgeLists.Listed.{advertisement_of, advertisements_of}
use Rattle.ospf_graph.proofs.EdgeLists.ItemLemmas.{items_more, is_empty_tells, items_split, nothing_behind, then_never, then_some}
use Rattle.ospf_graph.proofs.edges.items.are_items_of.Goals as goal

pub loop-lsa-preserved : goal.loop-lsa-preserved
loop-lsa-preserved c =
    let lsas = c.lsas-lsa-items.result.now in
    let so_far = items_of_all (map advertisement_of (take c.loop-lsa.lsa-index lsas)) in
    then_some c.args.items.now so_far c.loop-lsa.rest.now (items_of (advertisement_of c.lsa-item.result)) c.loop-lsa.invariant c.in-Some.more.now c.in-Some.ensures.some
    ∙ ap (λ l. l ++ c.in-Some.more.now) (sym (items_more lsas c.loop-lsa.lsa-index c.lsa-item.result c.loop-lsa-test.true c.lsa-item.is))

pub returns-in_default : goal.returns-in_default
unfolding advertisements_of
returns-in_default c =
    let lsas = c.lsas-lsa-items.result.now in
    let so_far = items_of_all (map advertisement_of (take c.loop-lsa.lsa-index lsas)) in
    let one = items_of (advertisement_of c.lsa-item.result) in
    let behind = items_of_all (map advertisement_of (drop (c.loop-lsa.lsa-index + 1) lsas)) in
    let split = items_split lsas c.loop-lsa.lsa-index c.lsa-item.result c.loop-lsa-test.true c.lsa-item.is in (
      λ no. cc,
      λ same. absurd (then_never c.args.items.now so_far c.loop-lsa.rest.now one c.loop-lsa.invariant c.in_default.ensures.none behind []
          (same ∙ ap (λ l. items_of_all (map advertisement_of l)) (sym c.lsas-lsa-items.ensures.lsas) ∙ split ∙ sym (append-nil (so_far ++ (one ++ behind))))),
    )

pub returns : goal.returns
unfolding advertisements_of
returns c =
    let lsas = c.lsas-lsa-items.result.now in
    let end : length lsas ≤ c.loop-lsa.lsa-index = omega (arith, c.loop-lsa-test.false) in
    let all : take c.loop-lsa.lsa-index lsas ≡ c.args.listing.now = take_all c.loop-lsa.lsa-index lsas end ∙ c.lsas-lsa-items.ensures.lsas in
    let split = nothing_behind c.args.items.now (items_of_all (map advertisement_of c.args.listing.now)) c.loop-lsa.rest.now
    (c.loop-lsa.invariant ∙ ap (λ l. items_of_all (map advertisement_of l) ++ c.loop-lsa.rest.now) all) in
    let empty = is_empty_tells c.loop-lsa.rest.now c.is_empty.result c.is_empty.ensures in
    ((λ yes. split.0 (empty.0 yes)), (λ same. empty.1 (split.1 same)))
