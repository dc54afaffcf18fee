use Rattle.std.proofs.Common.{◌≡◌, ◌∙◌, ap, sym}
use Rattle.ospf_base.specs.declared.ids.RouterId.{RouterId}
use Rattle.ospf_graph.proofs.EdgeLists.AddsLemmas.{adds_push}
use Rattle.ospf_whatif.specs.declared.failure.AreaFailure.TheVariants.{Router}
use Rattle.ospf_change.proofs.diff.roots.add_router.Goals as goal

pub returns-in_ok-push-in-Router : goal.returns-in_ok-push-in-Router
returns-in_ok-push-in-Router c =
    rw c.in_ok-push-in-Router.ensures.items
    (adds_push (λ (r : RouterId). c.args.element.now ≡ Router r) c.args.routers.now.items c.in-Router.router
    (λ r. (
      (λ is. let both : Router c.in-Router.router ≡ Router r = sym c.in-Router.is ∙ is in cc),
      (λ same. c.in-Router.is ∙ ap (λ (q : RouterId). Router q) same),
    )))
