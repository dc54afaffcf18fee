use Rattle.std.proofs.Common.{List}
use Rattle.std.specs.List.{AllZip}
use Rattle.ospf_base.specs.declared.ids.RouterId.{RouterId}
use Rattle.ospf_graph.specs.Advertisements.{Advertisement}
use Rattle.ospf_failures.specs.Overall.{AreSeenAt}
use Rattle.ospf_failures.specs.declared.overall.RouteDetail.{RouteDetail}
use Rattle.ospf_failures.proofs.RootLemmas.{IsAddedUp}
use Rattle.ospf_failures.proofs.roots.added_up.Given as goal

-- the sums of the groups so far
abbrev pub invariant-loop-piece : goal.invariant-loop-piece
invariant-loop-piece l =
    (adverts : List Advertisement) (detail : RouteDetail) (groups : List (List RouterId)) → AllZip (AreSeenAt adverts detail l.outages) groups l.fn.pieces.items
    → IsAddedUp adverts detail l.outages groups l.piece-iterator.rest.items l.overalls.items
