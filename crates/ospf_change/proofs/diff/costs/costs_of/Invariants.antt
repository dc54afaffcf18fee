use Rattle.std.proofs.Common.{take}
use Rattle.std.specs.BTreeMap.{get}
use Rattle.ospf_change.specs.Diff.Costs.{interface_cmp}
use Rattle.ospf_change.proofs.Diffs.CostLemmas.{AreCostsBy}
use Rattle.ospf_change.proofs.diff.costs.costs_of.Given as goal

-- what interfaces cost by the edges so far
abbrev pub invariant-loop-edge : goal.invariant-loop-edge
invariant-loop-edge l = AreCostsBy (take l.edge-index l.edge-items) (get interface_cmp l.costs)
