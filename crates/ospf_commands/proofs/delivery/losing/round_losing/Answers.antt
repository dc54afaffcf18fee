use Rattle.std.proofs.Common.{◌≡◌, [], ap, refl, rules, ◌∙◌}
use Rattle.ospf_router.specs.Steps.{is_dropped}
use Rattle.ospf_world.specs.Rounds.{ticks}
use Rattle.ospf_world.specs.Worlds.{world_of}
use Rattle.ospf_world.proofs.ExactFacts.{told_exact}
use Rattle.ospf_world.proofs.RandomFacts.{reached_on}
use Rattle.ospf_commands.proofs.Deliveries.LossFacts.{losing_goes, losing_leads, losing_ticks_end}
use Rattle.ospf_world.proofs.TickFacts.{sound_between, ticks_further, ticks_nowhere}
use Rattle.ospf_world.proofs.ToldFacts.{run_told, told_further, told_nowhere}
use Rattle.ospf_commands.proofs.delivery.losing.round_losing.Goals as goal

pub returns-in_default-clause-headline : goal.returns-in_default-clause-headline
returns-in_default-clause-headline g c = c.headline.ensures is_dropped [] (world_of c.args.world.now) (world_of c.args.world.now) c.reached.ensures refl

pub returns-in-Ok-run_watched-clause-round : goal.returns-in-Ok-run_watched-clause-round
returns-in-Ok-run_watched-clause-round g c =
    let events_are : c.deref.result.now ≡ ticks c.args.world.now.slots = c.deref.ensures.value ∙ c.in-Ok.ensures.ticks ∙ ap ticks c.slots.ensures in
    losing_goes c.args.most c.args.world.now c.run_watched.new.self c.offer_but.new.world c.args.losses.now c.offer_but.new.losses c.deref.result.now c.run_watched.result c.in-Ok-run_watched._refused c.offer_but.result events_are c.run_watched.ensures.run c.in-Ok-run_watched.is c.offer_but.ensures.offered

pub returns-in-Ok-run_watched-clause-reached : goal.returns-in-Ok-run_watched-clause-reached
returns-in-Ok-run_watched-clause-reached g c =
    reached_on (world_of c.args.world.now) (world_of c.offer_but.new.world) c.reached.ensures (losing_leads c.args.most c.args.world.now c.offer_but.new.world c.args.losses.now c.offer_but.new.losses c.offer_but.result (returns-in-Ok-run_watched-clause-round g c))

pub returns-in-Ok-run_watched-clause-headline : goal.returns-in-Ok-run_watched-clause-headline
returns-in-Ok-run_watched-clause-headline g c =
    let leads = losing_leads c.args.most c.args.world.now c.offer_but.new.world c.args.losses.now c.offer_but.new.losses c.offer_but.result (returns-in-Ok-run_watched-clause-round g c) in
    c.headline.ensures is_dropped leads.0 (world_of c.args.world.now) (world_of c.offer_but.new.world) c.reached.ensures leads.1

pub returns-clause-round : goal.returns-clause-round
returns-clause-round g c =
    let events_are : c.deref.result.now ≡ ticks c.args.world.now.slots = c.deref.ensures.value ∙ c.in-Ok.ensures.ticks ∙ ap ticks c.slots.ensures in
    losing_ticks_end c.args.most c.args.world.now c.run_watched.new.self c.args.losses.now c.deref.result.now c.run_watched.result c.in-Err.fault events_are c.run_watched.ensures.run c.in-Err.is

pub returns-in_default-clause-sound : goal.returns-in_default-clause-sound
returns-in_default-clause-sound g c =
    sound_between (λ event before after reached happens. c.soundness.ensures is_dropped event before after reached happens) (world_of c.args.world.now) (world_of c.args.world.now) c.reached.ensures ([], refl)

pub returns-in-Ok-run_watched-clause-sound : goal.returns-in-Ok-run_watched-clause-sound
returns-in-Ok-run_watched-clause-sound g c =
    sound_between (λ event before after reached happens. c.soundness.ensures is_dropped event before after reached happens) (world_of c.args.world.now) (world_of c.offer_but.new.world) c.reached.ensures
    (losing_leads c.args.most c.args.world.now c.offer_but.new.world c.args.losses.now c.offer_but.new.losses c.offer_but.result (returns-in-Ok-run_watched-clause-round g c))

pub returns-in-Ok-run_watched-clause-ticks : goal.returns-in-Ok-run_watched-clause-ticks
returns-in-Ok-run_watched-clause-ticks g c = ticks_further _ _ _ _ _ _ c.run_watched.ensures.ticks c.offer_but.ensures.ticks

pub returns-in_default-clause-ticks : goal.returns-in_default-clause-ticks
returns-in_default-clause-ticks g c = ticks_nowhere _ _ _ _ refl refl

pub returns-in-Ok-run_watched-clause-told : goal.returns-in-Ok-run_watched-clause-told
returns-in-Ok-run_watched-clause-told g c = search (rules, run_told, told_further)

pub returns-clause-told : goal.returns-clause-told
returns-clause-told g c = search (rules, run_told)

pub returns-in_default-clause-told : goal.returns-in_default-clause-told
returns-in_default-clause-told g c = told_nowhere _ _ _ _ refl

pub returns-in-Ok-run_watched-clause-exact : goal.returns-in-Ok-run_watched-clause-exact
returns-in-Ok-run_watched-clause-exact g c = told_exact _ _ _ _ (returns-in-Ok-run_watched-clause-told g c) c.reached_exactly.ensures

pub returns-clause-exact : goal.returns-clause-exact
returns-clause-exact g c = told_exact _ _ _ _ (returns-clause-told g c) c.reached_exactly.ensures

pub returns-in_default-clause-exact : goal.returns-in_default-clause-exact
returns-in_default-clause-exact g c = c.reached_exactly.ensures
