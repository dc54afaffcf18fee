use Rattle.std.proofs.Common.{◌≡◌, ◌≤◌, arith, length, refl}
use Rattle.ospf_base.specs.Text.{number_text}
use Rattle.ospf_base.specs.declared.ids.RouterId.{RouterId}
use Rattle.ospf_whatif.specs.declared.failure.AreaFailure.{AreaFailure}
use Rattle.ospf_whatif.specs.declared.failure.AreaFailure.TheVariants.{Router}
use Rattle.ospf_change.proofs.Edits.WordLemmas.{each_more, each_of_all}
use Rattle.ospf_change.proofs.edit.words.find_router.Goals as goal

pub loop-failure-preserved : goal.loop-failure-preserved
loop-failure-preserved c =
    each_more (λ (f : AreaFailure). (router : RouterId) → f ≡ Router router → number_text router.0 ≡ c.args.word.now → ⊥) c.args.single.now c.loop-failure.failure-index
    c.failure-item.result c.loop-failure-test.true c.failure-item.is c.loop-failure.invariant (rw c.in_default.is at c.in_ok-router.ensures.none)

pub returns-clause-none : goal.returns-clause-none
returns-clause-none c =
    let end : length c.args.single.now ≤ c.loop-failure.failure-index = omega (arith, c.loop-failure-test.false) in
    λ router is. each_of_all (λ (f : AreaFailure). (r : RouterId) → f ≡ Router r → number_text r.0 ≡ c.args.word.now → ⊥) c.args.single.now c.loop-failure.failure-index end
    c.loop-failure.invariant (Router router) is.0 router refl is.1
