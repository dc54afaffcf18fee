use Rattle.std.proofs.Common.{take}
use Rattle.std.specs.List.{All}
use Rattle.ospf_graph.specs.Search.{AtIn}
use Rattle.ospf_whatif.specs.Laws.{IsOffLeastPaths}
use Rattle.ospf_whatif.proofs.root.is_used.Given as goal

abbrev pub invariant-loop-edge : goal.invariant-loop-edge
invariant-loop-edge l = All (λ e. IsOffLeastPaths (AtIn l.paths.settled) e) (take l.edge-index l.edges)
