use Rattle.std.proofs.Common.{refl, rules, subst, List}
use Rattle.ospf_base.specs.declared.event.event.WorldEvent.{WorldEvent}
use Rattle.ospf_world.specs.Runs.{IsRun}
use Rattle.ospf_world.specs.Does.{Does}
use Rattle.ospf_world.specs.Ticks.{TicksGoOn}
use Rattle.ospf_world.specs.Worlds.{WorldValue}
use Rattle.ospf_commands.proofs.Deliveries.BatchFacts.{wave_ends, wave_taken}
use Rattle.ospf_world.proofs.ToldFacts.{run_told, told_counts, told_nowhere}
use Rattle.ospf_commands.proofs.delivery.batches.take_wave.Goals as goal

pub returns-in-Ok-clause-takes : goal.returns-in-Ok-clause-takes
returns-in-Ok-clause-takes g c =
    let run = subst (λ (es : List WorldEvent). IsRun Does es c.pass_all.new.self c.run_watched.result c.run_watched.new.self) c.deref.ensures.value c.run_watched.ensures.run in
    wave_taken c.args.world.now c.pass_all.new.self c.run_watched.new.self c.in-Ok-Some.wave.items c.run_watched.result c.in-Ok._refused (rw c.in-Ok-Some.field-0-is at c.in-Ok-Some.ensures.next) c.pass_all.ensures run c.in-Ok.is

pub returns-in-Ok-Some-clause-takes : goal.returns-in-Ok-Some-clause-takes
returns-in-Ok-Some-clause-takes g c =
    let run = subst (λ (es : List WorldEvent). IsRun Does es c.pass_all.new.self c.run_watched.result c.run_watched.new.self) c.deref.ensures.value c.run_watched.ensures.run in
    wave_ends c.args.world.now c.pass_all.new.self c.run_watched.new.self c.in-Ok-Some.wave.items c.run_watched.result c.in-Err-run_watched.fault (rw c.in-Ok-Some.field-0-is at c.in-Ok-Some.ensures.next) c.pass_all.ensures run c.in-Err-run_watched.is

pub returns-in-Ok-clause-ticks : goal.returns-in-Ok-clause-ticks
returns-in-Ok-clause-ticks g c = subst (λ (v : WorldValue). TicksGoOn v c.run_watched.new.self) c.pass_all.ensures c.run_watched.ensures.ticks

pub returns-in-Ok-Some-clause-ticks : goal.returns-in-Ok-Some-clause-ticks
returns-in-Ok-Some-clause-ticks g c = subst (λ (v : WorldValue). TicksGoOn v c.run_watched.new.self) c.pass_all.ensures c.run_watched.ensures.ticks

pub returns-in-Ok-clause-told : goal.returns-in-Ok-clause-told
returns-in-Ok-clause-told g c = search (rules, run_told, told_counts)

pub returns-in-Ok-Some-clause-told : goal.returns-in-Ok-Some-clause-told
returns-in-Ok-Some-clause-told g c = search (rules, run_told, told_counts)

pub returns-in-Ok-None-clause-told : goal.returns-in-Ok-None-clause-told
returns-in-Ok-None-clause-told g c = told_nowhere _ _ _ _ refl

pub returns-clause-told : goal.returns-clause-told
returns-clause-told g c = told_nowhere _ _ _ _ refl
