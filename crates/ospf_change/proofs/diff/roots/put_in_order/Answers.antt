use Rattle.std.proofs.lemmas.List.Filters.{dedup_is}
use Rattle.std.proofs.lemmas.List.Kept.{Contains-dedup, Contains-from_dedup, IsStrictlySortedBy-dedup}
use Rattle.std.proofs.lemmas.List.Sorted.{Contains-permutation, IsPermutation-sym}
use Rattle.ospf_base.specs.contracts.ids.RouterIdEq.TheImpl.Laws.{laws-law}
use Rattle.ospf_base.specs.contracts.ids.RouterIdOrd.TheImpl.Laws.{matches_eq-law, total-law}
use Rattle.ospf_change.proofs.Diffs.RouterOrder.{router_same, routers_rise}
use Rattle.ospf_change.proofs.diff.roots.put_in_order.Goals as goal

pub returns-clause-same : goal.returns-clause-same
returns-clause-same c =
    let is = dedup_is _ _ _ c.dedup.ensures.filtered in
    let moved = c.sort_unstable.ensures.permutation in
    λ r. (
      λ h. Contains-permutation _ _ r (IsPermutation-sym _ _ moved) (Contains-from_dedup _ _ r (rw is at h)),
      λ h. rw is (Contains-dedup laws-law router_same _ r (Contains-permutation _ _ r moved h)),
    )

pub returns-clause-rising : goal.returns-clause-rising
returns-clause-rising c =
    rw (dedup_is _ _ _ c.dedup.ensures.filtered) (routers_rise _ (IsStrictlySortedBy-dedup total-law matches_eq-law _ c.sort_unstable.ensures.sorted))
