use Rattle.std.proofs.Common.{Contains}
use Rattle.std.proofs.lemmas.List.Filters.{dedup_is}
use Rattle.std.proofs.lemmas.List.Kept.{Contains-dedup, Contains-from_dedup}
use Rattle.std.proofs.lemmas.List.Sorted.{Contains-permutation, IsPermutation-sym}
use Rattle.ospf_graph.specs.contracts.hop.NextHopEq.TheImpl.Laws.{laws-law}
use Rattle.ospf_graph.proofs.StartOrder.{hop_same}
use Rattle.ospf_spf.proofs.routes.leave_once.Goals as goal

pub returns : goal.returns
returns c =
    let is = dedup_is _ _ _ c.dedup.ensures.filtered in
    let moved = c.sort_unstable.ensures.permutation in
    λ hop. (
      λ h. let there : Contains c.dedup.new.self.items hop = search h in Contains-permutation _ _ hop (IsPermutation-sym _ _ moved) (Contains-from_dedup _ _ hop (rw is at there)),
      λ h. let there : Contains c.dedup.new.self.items hop = rw is (Contains-dedup laws-law hop_same _ hop (Contains-permutation _ _ hop moved h)) in search there,
    )
