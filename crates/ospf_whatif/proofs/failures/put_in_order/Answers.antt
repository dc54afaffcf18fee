use Rattle.std.proofs.lemmas.List.Filters.{dedup_is}
use Rattle.std.proofs.lemmas.List.Kept.{Contains-dedup, Contains-from_dedup, IsStrictlySortedBy-dedup}
use Rattle.std.proofs.lemmas.List.Sorted.{Contains-permutation, IsPermutation-sym}
use Rattle.ospf_whatif.specs.contracts.failure.AreaFailureEq.TheImpl.Laws.{laws-law}
use Rattle.ospf_whatif.specs.contracts.failure.AreaFailureOrd.TheImpl.Laws.{matches_eq-law, total-law}
use Rattle.ospf_whatif.proofs.FailureOrder.{failure_same, failures_rise}
use Rattle.ospf_whatif.proofs.failures.put_in_order.Goals as goal

pub returns-clause-same : goal.returns-clause-same
returns-clause-same c =
    let is = dedup_is _ _ _ c.dedup.ensures.filtered in
    let moved = c.sort_unstable.ensures.permutation in
    λ f. (
      λ h. Contains-permutation _ _ f (IsPermutation-sym _ _ moved) (Contains-from_dedup _ _ f (rw is at h)),
      λ h. rw is (Contains-dedup laws-law failure_same _ f (Contains-permutation _ _ f moved h)),
    )

pub returns-clause-in_order : goal.returns-clause-in_order
returns-clause-in_order c =
    rw (dedup_is _ _ _ c.dedup.ensures.filtered) (failures_rise _ (IsStrictlySortedBy-dedup total-law matches_eq-law _ c.sort_unstable.ensures.sorted))
