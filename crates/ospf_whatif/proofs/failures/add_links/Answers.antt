use Rattle.std.proofs.Common.{◌≡◌, arith}
use Rattle.ospf_whatif.specs.Single.{LinksGiven}
use Rattle.ospf_whatif.specs.declared.failure.AreaFailure.TheVariants.{Links}
use Rattle.ospf_graph.proofs.EdgeLists.AddsLemmas.{adds_as}
use Rattle.ospf_whatif.proofs.SingleLemmas.{one_links}
use Rattle.ospf_whatif.proofs.failures.add_links.Goals as goal

pub returns-in_ok-add_failure-in-Router-Router : goal.returns-in_ok-add_failure-in-Router-Router
returns-in_ok-add_failure-in-Router-Router c =
    let a = c.in-Router-Router.a in
    let b = c.in-Router-Router.b in
    adds_as (λ f. f ≡ Links a b) (LinksGiven c.args.wired.now c.args.edge.now) _ _
    (one_links c.args.wired.now c.args.edge.now a b c.in-Router-Router.is-0 c.in-Router-Router.is-1 (omega (arith, c.if-a-b.true))
    (λ there. let so = c.has.ensures.value.1 there in let no = c.if-not-has.true in cc))
    c.in_ok-add_failure-in-Router-Router.ensures
