use Rattle.std.proofs.Common.{take}
use Rattle.ospf_graph.specs.EdgeLists.Listed.{advertisements_of}
use Rattle.ospf_spf.proofs.TurnLemmas.{IsTurned}
use Rattle.ospf_router.proofs.turned.turn_table.Given as goal

abbrev pub invariant-loop-prefix : goal.invariant-loop-prefix
invariant-loop-prefix l = IsTurned (advertisements_of l.tree.listing) l.tree.root l.initial.table l.table (take l.prefix-index l.touched) l.is_other
