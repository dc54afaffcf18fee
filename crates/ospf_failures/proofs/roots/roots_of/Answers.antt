use Rattle.std.proofs.Common.{◌∙◌, ◌≤◌, ◌++◌, List, ap, arith, length, sym}
use Rattle.std.proofs.lemmas.List.{take_all}
use Rattle.ospf_base.specs.declared.ids.RouterId.{RouterId}
use Rattle.ospf_failures.specs.Overall.{failing_router, roots_in}
use Rattle.ospf_failures.proofs.OverallLemmas.{roots_on}
use Rattle.ospf_failures.proofs.roots.roots_of.Goals as goal

pub loop-failure-preserved : goal.loop-failure-preserved
loop-failure-preserved c =
    c.in_ok-add_root.ensures ∙ ap (λ (l : List RouterId). l ++ failing_router c.failure-item.result) c.loop-failure.invariant
    ∙ sym (roots_on c.args.failures.now c.loop-failure.failure-index c.failure-item.result c.loop-failure-test.true c.failure-item.is)

pub returns : goal.returns
returns c =
    let end : length c.args.failures.now ≤ c.loop-failure.failure-index = omega (arith, c.loop-failure-test.false) in
    c.loop-failure.invariant ∙ ap roots_in (take_all c.loop-failure.failure-index c.args.failures.now end)
