use Rattle.std.proofs.Common.{arith}
use Rattle.ospf_whatif.specs.Single.{IsUnnumberedAt, UnnumberedGiven}
use Rattle.ospf_graph.proofs.EdgeLists.AddsLemmas.{adds_as}
use Rattle.ospf_whatif.proofs.SingleLemmas.{unnumbered_given}
use Rattle.ospf_whatif.proofs.failures.add_unnumbered.Goals as goal

pub returns-in_ok-add_indexed-in-Router-Router : goal.returns-in_ok-add_indexed-in-Router-Router
returns-in_ok-add_indexed-in-Router-Router c =
    let e = c.args.edge.now in
    let a = c.in-Router-Router.a in
    let b = c.in-Router-Router.b in
    adds_as (IsUnnumberedAt e.link_data a b) (UnnumberedGiven c.args.wired.now e) _ _
    (unnumbered_given c.args.wired.now e a b c.in-Router-Router.is-0 c.in-Router-Router.is-1 (omega (arith, c.if-a-b.true)) (c.has.ensures.value.0 c.if-has.true))
    c.in_ok-add_indexed-in-Router-Router.ensures
