use Rattle.std.proofs.Common.{◌∙◌, None, ap, sym}
use Rattle.ospf_config.specs.declared.config.Config.{Config}
use Rattle.ospf_commands.proofs.Premises.{none_of_no_slots, pass_slot_if_none, pass_slot_not_lent, stop_slot_if_some}
use Rattle.ospf_commands.proofs.premise.first_of_slots.Goals as goal

pub returns-then-is_some : goal.returns-then-is_some
returns-then-is_some c =
    c.loop-slot.invariant c.in_ok-found-in-Ok.found
    (stop_slot_if_some _ c.loop-slot.rest.now c.in-Some.behind.now c.in-Some.slot.now _ c.in-Ok.lent c.in_ok-found-in-Ok.found (sym c.is_some.ensures ∙ c.if-is_some.true) c.in-Some.ensures.cases.0
    (ap (λ (config : Config). config.router_id) c.config.ensures) c.in-Ok.ensures c.in_ok-found-in-Ok.ensures)

pub loop-slot-preserved-else-is_some : goal.loop-slot-preserved-else-is_some
loop-slot-preserved-else-is_some c = λ found h.
    c.loop-slot.invariant found
    (pass_slot_if_none _ c.loop-slot.rest.now c.in-Some.behind.now c.in-Some.slot.now _ c.in-Ok.lent c.in_ok-found-in-Ok.found found (sym c.is_some.ensures ∙ c.if-is_some.false) c.in-Some.ensures.cases.0
    (ap (λ (config : Config). config.router_id) c.config.ensures) c.in-Ok.ensures c.in_ok-found-in-Ok.ensures h)

pub loop-slot-preserved : goal.loop-slot-preserved
loop-slot-preserved c = λ found h.
    c.loop-slot.invariant found
    (pass_slot_not_lent _ c.loop-slot.rest.now c.in-Some.behind.now c.in-Some.slot.now _ c.in-Err._fault found c.in-Some.ensures.cases.0
    (ap (λ (config : Config). config.router_id) c.config.ensures) c.in-Err.ensures h)

pub returns : goal.returns
returns c = c.loop-slot.invariant None (none_of_no_slots _ c.loop-slot.rest.now c.in_default.ensures.cases)
