use Rattle.std.proofs.Common.{◌≡◌, ◌∙◌, ap, sym, subst, List, None}
use Rattle.ospf_config.specs.declared.config.Config.{Config}
use Rattle.ospf_commands.specs.Judged.{AreFirstToDiffer, both}
use Rattle.ospf_commands.specs.Worlds.{SlotValue}
use Rattle.ospf_commands.proofs.Apart.{first_runs, none_left_runs, pass_stopped}
use Rattle.ospf_commands.proofs.agreement.apart.Goals as goal

pub returns-in-Some-router : goal.returns-in-Some-router
returns-in-Some-router c =
    let first : AreFirstToDiffer c.loop-slot.rest.now (both c.in-Some.slot.now.config.router_id c.in_ok-other.other) =
    first_runs c.loop-slot.rest.now c.in-Some.behind.now c.in-Some.slot.now c.in-Some-router.router.now c.in_ok-lsas.lsas.items c.deref.result.now c.in_ok-other.other
    c.in-Some.ensures.cases.0 c.in-Some-router.ensures.lent c.deref.ensures.value c.in_ok-lsas.ensures c.in_ok-other.ensures in
    let same : both c.in-Some.slot.now.config.router_id c.in_ok-other.other ≡ c.both.result =
    sym (c.both.ensures ∙ ap (λ (config : Config). both config.router_id c.in_ok-other.other) c.config.ensures) in
    c.loop-slot.invariant c.both.result (subst (AreFirstToDiffer c.loop-slot.rest.now) same first)

pub loop-slot-preserved : goal.loop-slot-preserved
loop-slot-preserved c = λ found h.
    c.loop-slot.invariant found
    (subst (λ (slots : List SlotValue). AreFirstToDiffer slots found) (sym c.in-Some.ensures.cases.0)
    (pass_stopped c.in-Some.slot.now c.in-Some.behind.now found (c.router.ensures.none c.in_default-router.is) h))

pub returns : goal.returns
returns c = c.loop-slot.invariant None (none_left_runs c.loop-slot.rest.now c.in_default.ensures.cases)
