use Rattle.std.proofs.Common.{◌≡◌, ◌≢◌, [], take}
use Rattle.std.specs.List.{AllZip}
use Rattle.ospf_graph.specs.EdgeLists.Listed.{advertisements_of}
use Rattle.ospf_whatif.specs.Failure.{HasLarge, IsLeftLsa, without_all}
use Rattle.ospf_whatif.proofs.area.without_all.Given as goal

-- what is left by the failures so far
abbrev pub invariant-loop-failure : goal.invariant-loop-failure
invariant-loop-failure l = record {
  left : advertisements_of l.left ≡ without_all (take l.failure-index l.failures) (advertisements_of l.fn.listing);
  bytes : AllZip (IsLeftLsa (advertisements_of l.fn.listing) (take l.failure-index l.failures)) l.fn.listing l.left;
  small : l.failures ≢ [] → HasLarge (advertisements_of l.left) → ⊥;
}
