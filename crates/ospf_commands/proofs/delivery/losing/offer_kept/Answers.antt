use Rattle.std.proofs.Common.{refl, rules, subst, List}
use Rattle.ospf_base.specs.declared.event.event.WorldEvent.{WorldEvent}
use Rattle.ospf_world.specs.Runs.{IsRun}
use Rattle.ospf_world.specs.Does.{Does}
use Rattle.ospf_world.specs.Ticks.{TicksOn}
use Rattle.ospf_world.specs.Worlds.{WorldValue, world_of}
use Rattle.ospf_world.proofs.ToldFacts.{run_told, told_counts, told_nowhere}
use Rattle.ospf_commands.proofs.Deliveries.LossFacts.{kept_ends, kept_taken}
use Rattle.ospf_commands.proofs.delivery.losing.offer_kept.Goals as goal

pub returns-in-Ok-clause-offers : goal.returns-in-Ok-clause-offers
returns-in-Ok-clause-offers g c =
    let run = subst (λ (es : List WorldEvent). IsRun Does es c.pass_one.new.self c.run_watched.result c.run_watched.new.self) c.deref.ensures.value c.run_watched.ensures.run in
    kept_taken c.args.world.now c.pass_one.new.self c.run_watched.new.self c.args.losses.now c.next_kept.new.losses c.in-Ok-Some.offers.items c.run_watched.result c.in-Ok._refused (rw c.in-Ok-Some.field-0-is at c.in-Ok-Some.ensures.next) c.pass_one.ensures run c.in-Ok.is

pub returns-in-Ok-Some-clause-offers : goal.returns-in-Ok-Some-clause-offers
returns-in-Ok-Some-clause-offers g c =
    let run = subst (λ (es : List WorldEvent). IsRun Does es c.pass_one.new.self c.run_watched.result c.run_watched.new.self) c.deref.ensures.value c.run_watched.ensures.run in
    kept_ends c.args.world.now c.pass_one.new.self c.run_watched.new.self c.args.losses.now c.next_kept.new.losses c.in-Ok-Some.offers.items c.run_watched.result c.in-Err-run_watched.fault (rw c.in-Ok-Some.field-0-is at c.in-Ok-Some.ensures.next) c.pass_one.ensures run c.in-Err-run_watched.is

pub returns-in-Ok-clause-ticks : goal.returns-in-Ok-clause-ticks
returns-in-Ok-clause-ticks g c = subst (λ (v : WorldValue). TicksOn (world_of v) v.ticks (world_of c.run_watched.new.self) c.run_watched.new.self.ticks) c.pass_one.ensures c.run_watched.ensures.ticks

pub returns-in-Ok-Some-clause-ticks : goal.returns-in-Ok-Some-clause-ticks
returns-in-Ok-Some-clause-ticks g c = subst (λ (v : WorldValue). TicksOn (world_of v) v.ticks (world_of c.run_watched.new.self) c.run_watched.new.self.ticks) c.pass_one.ensures c.run_watched.ensures.ticks

pub returns-in-Ok-clause-told : goal.returns-in-Ok-clause-told
returns-in-Ok-clause-told g c = search (rules, run_told, told_counts)

pub returns-in-Ok-Some-clause-told : goal.returns-in-Ok-Some-clause-told
returns-in-Ok-Some-clause-told g c = search (rules, run_told, told_counts)

pub returns-in-Ok-None-clause-told : goal.returns-in-Ok-None-clause-told
returns-in-Ok-None-clause-told g c = told_nowhere _ _ _ _ refl

pub returns-clause-told : goal.returns-clause-told
returns-clause-told g c = told_nowhere _ _ _ _ refl
