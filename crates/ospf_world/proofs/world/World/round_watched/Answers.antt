use Rattle.std.proofs.Common.{◌≡◌, [], ap, refl, rules, ◌∙◌}
use Rattle.ospf_router.specs.Steps.{is_dropped}
use Rattle.ospf_world.specs.Rounds.{ticks}
use Rattle.ospf_world.specs.Worlds.{world_of}
use Rattle.ospf_world.proofs.ExactFacts.{told_exact}
use Rattle.ospf_world.proofs.RandomFacts.{reached_on}
use Rattle.ospf_world.proofs.RoundFacts.{round_goes, round_leads, round_ticks_end}
use Rattle.ospf_world.proofs.TickFacts.{sound_between, ticks_further, ticks_nowhere}
use Rattle.ospf_world.proofs.ToldFacts.{run_told, told_further, told_nowhere}
use Rattle.ospf_world.proofs.Reached.{told_keeping}
use Rattle.ospf_world.proofs.world.World.round_watched.Goals as goal

pub returns-in_default-clause-headline : goal.returns-in_default-clause-headline
returns-in_default-clause-headline g c = c.headline.ensures is_dropped [] (world_of c.args.self.now) (world_of c.args.self.now) c.reached.ensures refl

pub returns-in-Ok-run_watched-clause-round : goal.returns-in-Ok-run_watched-clause-round
returns-in-Ok-run_watched-clause-round g c =
    let events_are : c.deref.result.now ≡ ticks c.args.self.now.slots = c.deref.ensures.value ∙ c.in-Ok.ensures.ticks ∙ ap ticks c.slots.ensures in
    round_goes c.args.most c.args.self.now c.run_watched.new.self c.offer.new.self c.deref.result.now c.run_watched.result c.in-Ok-run_watched._refused c.offer.result events_are c.run_watched.ensures.run c.in-Ok-run_watched.is c.offer.ensures.offered

pub returns-in-Ok-run_watched-clause-reached : goal.returns-in-Ok-run_watched-clause-reached
returns-in-Ok-run_watched-clause-reached g c =
    reached_on (world_of c.args.self.now) (world_of c.offer.new.self) c.reached.ensures (round_leads c.args.most c.args.self.now c.offer.new.self c.offer.result (returns-in-Ok-run_watched-clause-round g c))

pub returns-in-Ok-run_watched-clause-headline : goal.returns-in-Ok-run_watched-clause-headline
returns-in-Ok-run_watched-clause-headline g c =
    let leads = round_leads c.args.most c.args.self.now c.offer.new.self c.offer.result (returns-in-Ok-run_watched-clause-round g c) in
    c.headline.ensures is_dropped leads.0 (world_of c.args.self.now) (world_of c.offer.new.self) c.reached.ensures leads.1

pub returns-clause-round : goal.returns-clause-round
returns-clause-round g c =
    let events_are : c.deref.result.now ≡ ticks c.args.self.now.slots = c.deref.ensures.value ∙ c.in-Ok.ensures.ticks ∙ ap ticks c.slots.ensures in
    round_ticks_end c.args.most c.args.self.now c.run_watched.new.self c.deref.result.now c.run_watched.result c.in-Err.fault events_are c.run_watched.ensures.run c.in-Err.is

pub returns-in_default-clause-sound : goal.returns-in_default-clause-sound
returns-in_default-clause-sound g c =
    sound_between (λ event before after reached happens. c.soundness.ensures is_dropped event before after reached happens) (world_of c.args.self.now) (world_of c.args.self.now) c.reached.ensures ([], refl)

pub returns-in-Ok-run_watched-clause-sound : goal.returns-in-Ok-run_watched-clause-sound
returns-in-Ok-run_watched-clause-sound g c =
    sound_between (λ event before after reached happens. c.soundness.ensures is_dropped event before after reached happens) (world_of c.args.self.now) (world_of c.offer.new.self) c.reached.ensures
    (round_leads c.args.most c.args.self.now c.offer.new.self c.offer.result (returns-in-Ok-run_watched-clause-round g c))

pub returns-in-Ok-run_watched-clause-ticks : goal.returns-in-Ok-run_watched-clause-ticks
returns-in-Ok-run_watched-clause-ticks g c = ticks_further _ _ _ _ _ _ c.run_watched.ensures.ticks c.offer.ensures.ticks

pub returns-in_default-clause-ticks : goal.returns-in_default-clause-ticks
returns-in_default-clause-ticks g c = ticks_nowhere _ _ _ _ refl refl

pub returns-in-Ok-run_watched-clause-told : goal.returns-in-Ok-run_watched-clause-told
returns-in-Ok-run_watched-clause-told g c = search (rules, run_told, told_further)

pub returns-clause-told : goal.returns-clause-told
returns-clause-told g c = search (rules, run_told)

pub returns-in_default-clause-told : goal.returns-in_default-clause-told
returns-in_default-clause-told g c = told_nowhere _ _ _ _ refl

pub returns-in-Ok-run_watched-clause-exact : goal.returns-in-Ok-run_watched-clause-exact
returns-in-Ok-run_watched-clause-exact g c = told_exact _ _ _ _ c.offer.ensures.told c.run_watched.ensures.exact

pub returns-in-Ok-run_watched-clause-lawful : goal.returns-in-Ok-run_watched-clause-lawful
returns-in-Ok-run_watched-clause-lawful g c = told_keeping _ _ _ _ (returns-in-Ok-run_watched-clause-told g c)

pub returns-clause-lawful : goal.returns-clause-lawful
returns-clause-lawful g c = told_keeping _ _ _ _ (returns-clause-told g c)

pub returns-in_default-clause-lawful : goal.returns-in_default-clause-lawful
returns-in_default-clause-lawful g c = told_keeping _ _ _ _ (returns-in_default-clause-told g c)
