use Rattle.std.proofs.Common.{List, [], ap, sym, subst, ◌∙◌, ◌++◌}
use Rattle.ospf_config.specs.declared.config.Config.{Config}
use Rattle.ospf_world.specs.Slots.{SlotValue}
use Rattle.ospf_world.proofs.NewFacts.{IsBegun, begun_added, begun_none, empty_none, opens_err, opens_fault, walked_on}
use Rattle.ospf_world.proofs.parts.Parts.new.Goals as goal

pub loop-config-init : goal.loop-config-init
loop-config-init c = record {
  walked = sym c.into_iter-config-iterator.ensures.into_iter_gives.0;
  begun = subst (λ (slots : List SlotValue). IsBegun [] slots c.new-places.result) (sym c.new-slots.ensures.items) (begun_none c.new-places.result (empty_none c.new-places.result c.new-places.ensures.empty));
}

pub loop-config-preserved : goal.loop-config-preserved
loop-config-preserved c = record {
  walked = walked_on c.args.configs.items c.loop-config.yielded c.loop-config.config-iterator.rest.items c.next.new.self.rest.items c.in-Some.config c.loop-config.invariant.walked c.in-Some.ensures.steps.0;
  begun = begun_added _ _ _ _ _ _ c.add.result c.loop-config.invariant.begun c.add.ensures c.in_ok-add.was;
}

pub returns-in_err-add : goal.returns-in_err-add
returns-in_err-add c =
    opens_fault c.args.configs.items c.from_residual.result c.in_err-add.field-0.0 c.from_residual.ensures.1
    (opens_err c.args.configs.items c.loop-config.yielded c.next.new.self.rest.items c.in-Some.config _ _ _ _ c.add.result c.in_err-add.field-0.0 (c.loop-config.invariant.walked ∙ ap (λ (t : List Config). c.loop-config.yielded ++ t) c.in-Some.ensures.steps.0) c.loop-config.invariant.begun c.add.ensures c.in_err-add.was)
