use Rattle.std.proofs.Common.{◌≡◌, take}
use Rattle.std.specs.List.{Contains}
use Rattle.ospf_graph.specs.Tree.{hop_of_start}
use Rattle.ospf_graph.specs.declared.graph.Start.{Start}
use Rattle.ospf_spf.specs.Reach.{GathersHops}
use Rattle.ospf_spf.proofs.routes.add_hops_by.Given as goal

abbrev pub invariant-loop-start : goal.invariant-loop-start
invariant-loop-start g l = GathersHops (λ h. (x : Start) × Contains (take l.start-index l.start-items) x × (h ≡ hop_of_start x)) l.initial.hops.items l.hops.items
