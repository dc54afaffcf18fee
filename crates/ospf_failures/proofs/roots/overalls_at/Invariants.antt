use Rattle.std.proofs.Common.{◌≡◌, ◌++◌, List, length}
use Rattle.std.specs.List.{AllZip}
use Rattle.ospf_base.specs.declared.ids.RouterId.{RouterId}
use Rattle.ospf_graph.specs.EdgeLists.Listed.{advertisements_of}
use Rattle.ospf_failures.specs.Overall.{IsSeenAt}
use Rattle.ospf_failures.proofs.roots.overalls_at.Given as goal

-- what was found is of the routers before the rest
abbrev pub invariant-loop-rest : goal.invariant-loop-rest
invariant-loop-rest g l =
    (done : List RouterId) × (done ++ l.rest ≡ l.roots) × AllZip (IsSeenAt (advertisements_of l.at.0.now) l.detail done) l.outages l.overalls.items

abbrev pub decreases-loop-rest : goal.decreases-loop-rest
decreases-loop-rest g l = length l.rest
