use Rattle.std.proofs.Common.{refl, rules, sym, ◌∙◌}
use Rattle.ospf_world.proofs.RandomFacts.{meets_ended, meets_passed, meets_taken}
use Rattle.ospf_world.proofs.TickFacts.{ticks_nowhere, ticks_once}
use Rattle.ospf_world.proofs.ToldFacts.{told_nowhere, told_once}
use Rattle.ospf_world.proofs.world.World.meet.Goals as goal

pub returns-in_default-step_watched-2-clause-meets : goal.returns-in_default-step_watched-2-clause-meets
returns-in_default-step_watched-2-clause-meets g c = meets_taken c.args.event c.in-Some.event c.step_watched.result c.args.self.now c.step_watched.new.self c.in-Some.is c.step_watched.ensures.does c.in_default-step_watched.is

pub returns-in-Err-clause-meets : goal.returns-in-Err-clause-meets
returns-in-Err-clause-meets g c = meets_ended c.args.event c.in-Some.event c.step_watched.result c.in-Err.fault c.args.self.now c.step_watched.new.self c.in-Some.is c.step_watched.ensures.does c.in-Err.is (sym c.is_memory.ensures ∙ c.if-is_memory.true)

pub returns-in_default-step_watched-clause-meets : goal.returns-in_default-step_watched-clause-meets
returns-in_default-step_watched-clause-meets g c = meets_passed c.args.event c.in-Some.event c.step_watched.result c.in-Err.fault c.args.self.now c.step_watched.new.self c.in-Some.is c.step_watched.ensures.does c.in-Err.is (sym c.is_memory.ensures ∙ c.if-is_memory.false)

pub returns-in_default-step_watched-2-clause-ticks : goal.returns-in_default-step_watched-2-clause-ticks
returns-in_default-step_watched-2-clause-ticks g c = ticks_once c.in-Some.event c.step_watched.result _ _ _ _ c.step_watched.ensures.comes c.step_watched.ensures.ticks

pub returns-in-Err-clause-ticks : goal.returns-in-Err-clause-ticks
returns-in-Err-clause-ticks g c = ticks_once c.in-Some.event c.step_watched.result _ _ _ _ c.step_watched.ensures.comes c.step_watched.ensures.ticks

pub returns-in_default-step_watched-clause-ticks : goal.returns-in_default-step_watched-clause-ticks
returns-in_default-step_watched-clause-ticks g c = ticks_once c.in-Some.event c.step_watched.result _ _ _ _ c.step_watched.ensures.comes c.step_watched.ensures.ticks

pub returns-in_default-clause-ticks : goal.returns-in_default-clause-ticks
returns-in_default-clause-ticks g c = ticks_nowhere _ _ _ _ refl refl

pub returns-in_default-step_watched-2-clause-told : goal.returns-in_default-step_watched-2-clause-told
returns-in_default-step_watched-2-clause-told g c = search (rules, told_once)

pub returns-in-Err-clause-told : goal.returns-in-Err-clause-told
returns-in-Err-clause-told g c = search (rules, told_once)

pub returns-in_default-step_watched-clause-told : goal.returns-in_default-step_watched-clause-told
returns-in_default-step_watched-clause-told g c = search (rules, told_once)

pub returns-in_default-clause-told : goal.returns-in_default-clause-told
returns-in_default-clause-told g c = told_nowhere _ _ _ _ refl
