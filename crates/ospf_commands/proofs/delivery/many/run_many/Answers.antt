use Rattle.std.proofs.Common.{◌≡◌, ap, refl, rules, ◌∙◌}
use Rattle.std.specs.List.{flat_map}
use Rattle.ospf_commands.specs.Deliveries.Many.{many_of}
use Rattle.ospf_world.proofs.ToldFacts.{run_told, told_nowhere}
use Rattle.ospf_commands.proofs.Deliveries.Manys.{all_come, not_empty, some_come}
use Rattle.ospf_commands.proofs.delivery.many.run_many.Goals as goal

pub returns-in-Ok-run_watched-clause-comes : goal.returns-in-Ok-run_watched-clause-comes
returns-in-Ok-run_watched-clause-comes g c =
    let events_are : c.deref.result.now ≡ flat_map (many_of c.args.many) c.args.world.now.slots = c.deref.ensures.value ∙ c.in-Ok.ensures ∙ ap (flat_map (many_of c.args.many)) c.slots.ensures in
    all_come c.args.many c.args.world.now c.run_watched.new.self c.deref.result.now c.run_watched.result c.in-Ok-run_watched._refused events_are (not_empty _ _ _ c.is_empty.ensures c.if-is_empty.false c.deref.ensures.len) c.in-Ok-run_watched.is c.run_watched.ensures.run

pub returns-clause-comes : goal.returns-clause-comes
returns-clause-comes g c =
    let events_are : c.deref.result.now ≡ flat_map (many_of c.args.many) c.args.world.now.slots = c.deref.ensures.value ∙ c.in-Ok.ensures ∙ ap (flat_map (many_of c.args.many)) c.slots.ensures in
    some_come c.args.many c.args.world.now c.run_watched.new.self c.deref.result.now c.run_watched.result c.in-Err.fault events_are (not_empty _ _ _ c.is_empty.ensures c.if-is_empty.false c.deref.ensures.len) c.in-Err.is c.run_watched.ensures.run

pub returns-in-Ok-run_watched-clause-told : goal.returns-in-Ok-run_watched-clause-told
returns-in-Ok-run_watched-clause-told g c = search (rules, run_told)

pub returns-clause-told : goal.returns-clause-told
returns-clause-told g c = search (rules, run_told)

pub returns-in_default-clause-told : goal.returns-in_default-clause-told
returns-in_default-clause-told g c = told_nowhere _ _ _ _ refl

pub returns-then-is_empty-clause-told : goal.returns-then-is_empty-clause-told
returns-then-is_empty-clause-told g c = told_nowhere _ _ _ _ refl
