use Rattle.std.proofs.lemmas.List.Filters.{dedup_is}
use Rattle.std.proofs.lemmas.List.Kept.{Contains-dedup, Contains-from_dedup, IsStrictlySortedBy-dedup}
use Rattle.std.proofs.lemmas.List.Sorted.{Contains-permutation, IsPermutation-sym}
use Rattle.ospf_graph.specs.contracts.hop.NextHopEq.TheImpl.Laws.{laws-law}
use Rattle.ospf_graph.specs.contracts.hop.NextHopOrd.TheImpl.Laws.{matches_eq-law, total-law}
use Rattle.ospf_graph.proofs.HopLists.{hops_rise}
use Rattle.ospf_graph.proofs.StartOrder.{hop_same}
use Rattle.ospf_graph.proofs.route.Hops.of.Goals as goal

pub returns-clause-hops : goal.returns-clause-hops
returns-clause-hops c =
    let is = dedup_is _ _ _ c.dedup.ensures.filtered in
    let moved = c.sort_unstable.ensures.permutation in
    λ hop. (
      λ h. Contains-permutation _ _ hop (IsPermutation-sym _ _ moved) (Contains-from_dedup _ _ hop (rw is at h)),
      λ h. rw is (Contains-dedup laws-law hop_same _ hop (Contains-permutation _ _ hop moved h)),
    )

pub invariant_of-result : goal.invariant_of-result
invariant_of-result c =
    rw (dedup_is _ _ _ c.dedup.ensures.filtered) (hops_rise _ (IsStrictlySortedBy-dedup total-law matches_eq-law _ c.sort_unstable.ensures.sorted))

pub returns-clause-in_order : goal.returns-clause-in_order
returns-clause-in_order c =
    rw (dedup_is _ _ _ c.dedup.ensures.filtered) (hops_rise _ (IsStrictlySortedBy-dedup total-law matches_eq-law _ c.sort_unstable.ensures.sorted))
