use Rattle.std.proofs.Common.{List, subst}
use Rattle.std.specs.List.{Contains}
use Rattle.ospf_base.specs.declared.ids.RouterId.{RouterId}
use Rattle.ospf_graph.proofs.edges.lookups.is_attached.Goals as goal

pub returns-in-Some : goal.returns-in-Some
returns-in-Some c =
    let are = c.in-Some.ensures.found in (
      λ yes. record { mask = are.mask; attached = c.in-Some.attached; network = are.network; names = c.has_member.ensures.0 yes },
      λ is. c.has_member.ensures.1 (subst (λ (l : List RouterId). Contains l c.args.router) (are.only is.mask is.attached is.network) is.names),
    )

pub returns-in-None : goal.returns-in-None
returns-in-None c = ((λ no. cc), λ is. absurd (c.in-None.ensures.none is.mask is.attached is.network))
