use Rattle.std.proofs.Common.{◌≡◌, ◌<◌, ◌∙◌, false, sym, arith}
use Rattle.std.specs.List.{list_any}
use Rattle.std.proofs.lemmas.Bool.{both_ways}
use Rattle.ospf_graph.proofs.EdgeLists.AddsLemmas.{adds_none}
use Rattle.ospf_whatif.specs.Stubs.{IsLoneStubLink, StubGiven, is_subnet_of}
use Rattle.ospf_whatif.proofs.StubLemmas.{adds_stub, given_alone}
use Rattle.ospf_whatif.proofs.stubs.add_stub.Goals as goal
use Rattle.ospf_whatif.proofs.stubs.add_stub.Goals.{else-prefix-lt32-via-then-prefix-lt32+else-not-has_subnet_of, else-prefix-lt32-via-else-prefix-lt32}

pub returns-in_ok-push-in-Some : goal.returns-in_ok-push-in-Some
returns-in_ok-push-in-Some c =
    let prefix = c.in-Some.prefix in
    let short : prefix.length < 32 = omega (arith, c.if-prefix-lt32.true) in
    let none : list_any (is_subnet_of c.args.links.now prefix) c.args.links.now ≡ false = sym c.has_subnet_of.ensures ∙ c.if-not-has_subnet_of.true in
    let is : IsLoneStubLink c.args.links.now c.args.link prefix =
    record { stub = c.in-Some.ensures.some.0; prefix_is = c.in-Some.ensures.some.1; wide = short; alone = none } in
    rw c.in_ok-push-in-Some.ensures.items (adds_stub c.args.router c.args.links.now c.args.link prefix c.args.failures.now.items is)

pub returns-else-prefix-lt32 : goal.returns-else-prefix-lt32
returns-else-prefix-lt32 c =
    adds_none (StubGiven c.args.router c.args.links.now c.args.link) c.args.failures.now.items
    (given_alone c.args.router c.args.links.now c.args.link c.in-Some.prefix c.in-Some.ensures.some.1
    (λ is. elim c.else-prefix-lt32.branch [
      | else-prefix-lt32-via-then-prefix-lt32+else-not-has_subnet_of w ↦ both_ways _ (w.has_subnet_of.ensures ∙ is.alone) w.if-not-has_subnet_of.false
      | else-prefix-lt32-via-else-prefix-lt32 w ↦ let wide = is.wide in omega (arith, w.if-prefix-lt32.false, wide)
    ]))
