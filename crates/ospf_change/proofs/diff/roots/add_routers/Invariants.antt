use Rattle.std.proofs.Common.{◌≡◌, take}
use Rattle.ospf_graph.specs.Adds.{Adds}
use Rattle.ospf_base.specs.declared.ids.RouterId.{RouterId}
use Rattle.ospf_whatif.specs.Single.{GivenBy}
use Rattle.ospf_whatif.specs.declared.failure.AreaFailure.{AreaFailure}
use Rattle.ospf_whatif.specs.declared.failure.AreaFailure.TheVariants.{Router}
use Rattle.ospf_change.proofs.diff.roots.add_routers.Given as goal

-- the routers of the elements so far
abbrev pub invariant-loop-element : goal.invariant-loop-element
invariant-loop-element l =
    Adds (GivenBy (λ (e : AreaFailure) (r : RouterId). e ≡ Router r) (take l.element-index l.elements)) l.initial.routers.items l.routers.items
