use Rattle.std.proofs.Common.{map, take}
use Rattle.ospf_graph.specs.EdgeLists.Listed.{advertisement_of}
use Rattle.ospf_whatif.specs.Failure.{HasLarge}
use Rattle.ospf_change.proofs.edit.large.first_large.Given as goal

-- no router before has too many links
abbrev pub invariant-loop-lsa : goal.invariant-loop-lsa
invariant-loop-lsa l = HasLarge (map advertisement_of (take l.lsa-index l.lsa-items)) → ⊥
