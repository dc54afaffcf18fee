use Rattle.std.proofs.Common.{◌-◌, length, take}
use Rattle.ospf_graph.specs.EdgeLists.Listed.{advertisements_of}
use Rattle.ospf_change.specs.Diff.Sights.{AreSeen}
use Rattle.ospf_change.specs.Diff.Sums.{HasDifferenceRoom}
use Rattle.ospf_change.proofs.diff.sights.sights_of.Given as goal

-- what is seen of the routers so far, and there is room for the others
abbrev pub invariant-loop-router : goal.invariant-loop-router
invariant-loop-router l = record {
  seen : AreSeen (advertisements_of l.before) (advertisements_of l.after) (take l.router-index l.routers) l.sights;
  room : HasDifferenceRoom (length l.routers - l.router-index) l.sights.sums;
}
