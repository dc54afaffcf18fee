use Rattle.std.proofs.Common.{take}
use Rattle.ospf_graph.specs.Adds.{Adds}
use Rattle.ospf_whatif.specs.Single.{GivenBy, IsPairOf}
use Rattle.ospf_whatif.proofs.failures.wired_pairs.Given as goal

abbrev pub invariant-loop-wire : goal.invariant-loop-wire
invariant-loop-wire l = Adds (GivenBy IsPairOf (take l.wire-index l.wires)) l.initial.pairs.items l.pairs.items
