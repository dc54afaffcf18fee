use Rattle.std.proofs.Common.{◌≡◌, ◌∙◌, sym, subst, List, None, Some}
use Rattle.ospf_config.specs.declared.config.Config.{Config}
use Rattle.ospf_commands.specs.Judged.{IsFirstOther}
use Rattle.ospf_commands.specs.Worlds.{SlotValue}
use Rattle.ospf_commands.proofs.Apart.{lists_if_stopped, lists_otherwise, lists_same, none_left_lists, pass_same}
use Rattle.ospf_commands.proofs.Same.{are_not_other, are_other}
use Rattle.ospf_commands.proofs.agreement.first_other.Goals as goal

pub returns-then-ne : goal.returns-then-ne
returns-then-ne c =
    let other : c.in_ok-other.other.items ≡ c.args.lsas.now → ⊥ = λ same.
    are_other c.ne.result c.as_slice.result.now c.args.lsas.now c.ne.ensures c.if-ne.true (c.as_slice.ensures.value ∙ same) in
    let first : IsFirstOther c.args.lsas.now c.loop-slot.rest.now (Some c.in-Some.slot.now.config.router_id) =
    lists_otherwise c.loop-slot.rest.now c.in-Some.behind.now c.in-Some.slot.now c.in-Some-router.router.now c.args.lsas.now c.in_ok-other.other.items
    c.in-Some.ensures.cases.0 c.in-Some-router.ensures.lent c.in_ok-other.ensures other in
    c.loop-slot.invariant (Some c.config.result.now.router_id)
    (subst (λ (config : Config). IsFirstOther c.args.lsas.now c.loop-slot.rest.now (Some config.router_id)) (sym c.config.ensures) first)

pub loop-slot-preserved-else-ne : goal.loop-slot-preserved-else-ne
loop-slot-preserved-else-ne c = λ found h.
    let same : c.in_ok-other.other.items ≡ c.args.lsas.now =
    sym c.as_slice.ensures.value ∙ are_not_other c.ne.result c.as_slice.result.now c.args.lsas.now c.ne.ensures c.if-ne.false in
    c.loop-slot.invariant found
    (subst (λ (slots : List SlotValue). IsFirstOther c.args.lsas.now slots found) (sym c.in-Some.ensures.cases.0)
    (pass_same c.args.lsas.now c.in-Some.slot.now c.in-Some.behind.now found
    (lists_same c.args.lsas.now c.in_ok-other.other.items c.in-Some.slot.now c.in-Some-router.router.now c.in-Some-router.ensures.lent c.in_ok-other.ensures same) h))

pub loop-slot-preserved : goal.loop-slot-preserved
loop-slot-preserved c = λ found h.
    c.loop-slot.invariant found
    (subst (λ (slots : List SlotValue). IsFirstOther c.args.lsas.now slots found) (sym c.in-Some.ensures.cases.0)
    (pass_same c.args.lsas.now c.in-Some.slot.now c.in-Some.behind.now found
    (lists_if_stopped c.args.lsas.now c.in-Some.slot.now (c.router.ensures.none c.in_default-router.is)) h))

pub returns : goal.returns
returns c = c.loop-slot.invariant None (none_left_lists c.args.lsas.now c.loop-slot.rest.now c.in_default.ensures.cases)
