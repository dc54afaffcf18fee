use Rattle.std.proofs.Common.{Err, Ok, ◌+◌, refl, rules, arith}
use Rattle.ospf_router.specs.Steps.{is_dropped}
use Rattle.ospf_world.specs.Worlds.{world_of}
use Rattle.ospf_world.proofs.ExactFacts.{told_exact}
use Rattle.ospf_world.proofs.RandomFacts.{drawn_all, drawn_more, random_done, random_ends, random_leads, random_more, reached_on, same_on}
use Rattle.ospf_world.proofs.TickFacts.{sound_between, ticks_further, ticks_nowhere}
use Rattle.ospf_world.proofs.ToldFacts.{told_further, told_nowhere}
use Rattle.ospf_world.proofs.Reached.{told_keeping}
use Rattle.ospf_world.proofs.world.World.draw_events_watched.Goals as goal

pub returns-in-Err-clause-random : goal.returns-in-Err-clause-random
returns-in-Err-clause-random g c =
    random_ends c.args.count c.loop-i.i c.args.generator.now c.loop-i.generator c.draw-words.new.generator c.draw-words.result c.draw_event-event.result c.meet.result c.args.self.now c.loop-i.self c.meet.new.self
    c.in-Err.fault c.loop-i-test.true c.draw-words.ensures c.draw_event-event.ensures c.meet.ensures.meets c.in-Err.is c.loop-i.invariant.comes

pub returns-in-Err-clause-reached : goal.returns-in-Err-clause-reached
returns-in-Err-clause-reached g c =
    reached_on (world_of c.args.self.now) (world_of c.meet.new.self) c.reached.ensures (random_leads c.args.count _ c.args.self.now c.meet.new.self (Err c.in-Err.fault) (returns-in-Err-clause-random g c))

pub returns-in-Err-clause-headline : goal.returns-in-Err-clause-headline
returns-in-Err-clause-headline g c =
    let leads = random_leads c.args.count _ c.args.self.now c.meet.new.self (Err c.in-Err.fault) (returns-in-Err-clause-random g c) in
    c.headline.ensures is_dropped leads.0 (world_of c.args.self.now) (world_of c.meet.new.self) c.reached.ensures leads.1

pub loop-i-preserved : goal.loop-i-preserved
loop-i-preserved g c = record {
  comes = random_more c.args.count c.loop-i.i c.args.generator.now c.loop-i.generator c.draw-words.new.generator c.draw-words.result c.draw_event-event.result c.meet.result c.args.self.now c.loop-i.self c.meet.new.self
      c.loop-i-test.true c.draw-words.ensures c.draw_event-event.ensures c.meet.ensures.meets c.in-Ok.is c.loop-i.invariant.comes;
  drawn = drawn_more c.loop-i.i c.args.generator.now c.loop-i.generator c.draw-words.new.generator c.draw-words.result c.draw-words.ensures c.loop-i.invariant.drawn;
  same = same_on c.args.self.now c.loop-i.self c.meet.new.self c.loop-i.invariant.same c.meet.ensures.same;
  ticks = ticks_further _ _ _ _ _ _ c.loop-i.invariant.ticks c.meet.ensures.ticks;
  told = told_further _ _ _ _ _ c.loop-i.invariant.told c.meet.ensures.told;
}

pub returns-clause-random : goal.returns-clause-random
returns-clause-random g c =
    random_done c.args.count c.loop-i.i c.args.generator.now c.loop-i.generator c.args.self.now c.loop-i.self (omega arith) c.loop-i.invariant.comes

pub returns-clause-reached : goal.returns-clause-reached
returns-clause-reached g c =
    reached_on (world_of c.args.self.now) (world_of c.loop-i.self) c.reached.ensures (random_leads c.args.count _ c.args.self.now c.loop-i.self (Ok tt) (returns-clause-random g c))

pub returns-clause-headline : goal.returns-clause-headline
returns-clause-headline g c =
    let leads = random_leads c.args.count _ c.args.self.now c.loop-i.self (Ok tt) (returns-clause-random g c) in
    c.headline.ensures is_dropped leads.0 (world_of c.args.self.now) (world_of c.loop-i.self) c.reached.ensures leads.1

pub returns-in-Err-clause-sound : goal.returns-in-Err-clause-sound
returns-in-Err-clause-sound g c =
    sound_between (λ event before after reached happens. c.soundness.ensures is_dropped event before after reached happens) (world_of c.args.self.now) (world_of c.meet.new.self) c.reached.ensures
    (random_leads c.args.count _ c.args.self.now c.meet.new.self (Err c.in-Err.fault) (returns-in-Err-clause-random g c))

pub returns-in-Err-clause-ticks : goal.returns-in-Err-clause-ticks
returns-in-Err-clause-ticks g c = ticks_further _ _ _ _ _ _ c.loop-i.invariant.ticks c.meet.ensures.ticks

pub returns-clause-sound : goal.returns-clause-sound
returns-clause-sound g c =
    sound_between (λ event before after reached happens. c.soundness.ensures is_dropped event before after reached happens) (world_of c.args.self.now) (world_of c.loop-i.self) c.reached.ensures
    (random_leads c.args.count _ c.args.self.now c.loop-i.self (Ok tt) (returns-clause-random g c))

pub loop-i-init : goal.loop-i-init
loop-i-init g c = record {
  comes = search rules;
  drawn = refl;
  same = record { configs = refl; offered = refl };
  ticks = ticks_nowhere _ _ _ _ refl refl;
  told = told_nowhere _ _ _ _ refl;
}

pub returns-clause-drawn : goal.returns-clause-drawn
returns-clause-drawn g c = drawn_all c.args.count c.loop-i.i c.args.generator.now c.loop-i.generator (omega arith) (omega arith) c.loop-i.invariant.drawn

pub returns-in-Err-clause-stopped : goal.returns-in-Err-clause-stopped
returns-in-Err-clause-stopped g c =
    (c.loop-i.i + 1, omega (arith, c.loop-i-test.true), drawn_more c.loop-i.i c.args.generator.now c.loop-i.generator c.draw-words.new.generator c.draw-words.result c.draw-words.ensures c.loop-i.invariant.drawn)

pub returns-in-Err-clause-told : goal.returns-in-Err-clause-told
returns-in-Err-clause-told g c = told_further _ _ _ _ _ c.loop-i.invariant.told c.meet.ensures.told

pub returns-in-Err-clause-exact : goal.returns-in-Err-clause-exact
returns-in-Err-clause-exact g c = told_exact _ _ _ _ (returns-in-Err-clause-told g c) c.reached_exactly.ensures

pub returns-clause-exact : goal.returns-clause-exact
returns-clause-exact g c = told_exact _ _ _ _ c.loop-i.invariant.told c.reached_exactly.ensures

pub returns-in-Err-clause-lawful : goal.returns-in-Err-clause-lawful
returns-in-Err-clause-lawful g c = told_keeping _ _ _ _ (returns-in-Err-clause-told g c)

pub returns-clause-lawful : goal.returns-clause-lawful
returns-clause-lawful g c = told_keeping _ _ _ _ c.loop-i.invariant.told
