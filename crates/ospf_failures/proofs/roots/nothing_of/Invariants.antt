use Rattle.std.proofs.Common.{List, [], take}
use Rattle.std.specs.List.{AllZip}
use Rattle.ospf_graph.specs.Advertisements.{Advertisement}
use Rattle.ospf_failures.specs.Overall.{IsSeenAt}
use Rattle.ospf_failures.specs.declared.overall.RouteDetail.{RouteDetail}
use Rattle.ospf_failures.proofs.roots.nothing_of.Given as goal

-- nothing of the failures so far
abbrev pub invariant-loop-outage : goal.invariant-loop-outage
invariant-loop-outage l = (adverts : List Advertisement) (detail : RouteDetail) → AllZip (IsSeenAt adverts detail []) (take l.outage-index l.outages) l.overalls.items
