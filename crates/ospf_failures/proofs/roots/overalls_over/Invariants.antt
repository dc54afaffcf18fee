use Rattle.std.proofs.Common.{take}
use Rattle.std.specs.List.{AllZip}
use Rattle.ospf_graph.specs.EdgeLists.Listed.{advertisements_of}
use Rattle.ospf_failures.specs.Overall.{IsSeenAt}
use Rattle.ospf_failures.proofs.roots.overalls_over.Given as goal

-- what changes at the routers so far
abbrev pub invariant-loop-root : goal.invariant-loop-root
invariant-loop-root l = AllZip (IsSeenAt (advertisements_of l.listing) l.detail (take l.root-index l.roots)) l.outages l.overalls.items
