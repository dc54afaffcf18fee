use Rattle.std.proofs.lemmas.List.Filters.{dedup_is}
use Rattle.std.proofs.lemmas.List.Kept.{Contains-dedup, Contains-from_dedup}
use Rattle.std.proofs.lemmas.List.Sorted.{Contains-permutation, IsPermutation-sym}
use Rattle.ospf_graph.specs.contracts.graph.StartEq.TheImpl.Laws.{laws-law}
use Rattle.ospf_graph.proofs.StartOrder.{start_same}
use Rattle.ospf_graph.proofs.reached.put_in_order.Goals as goal

pub returns : goal.returns
returns c =
    let is = dedup_is _ _ _ c.dedup.ensures.filtered in
    let moved = c.sort_unstable.ensures.permutation in
    λ y. (
      λ h. Contains-permutation _ _ y (IsPermutation-sym _ _ moved) (Contains-from_dedup _ _ y (rw is at h)),
      λ h. rw is (Contains-dedup laws-law start_same _ y (Contains-permutation _ _ y moved h)),
    )
