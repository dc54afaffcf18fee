use Rattle.std.proofs.Common.{ap, refl}
use Rattle.ospf_commands.proofs.Deliveries.ProgressFacts.{on_events, on_nowhere, on_same_world}
use Rattle.ospf_script.specs.declared.command.Command.TheVariants as command
use Rattle.ospf_commands.specs.Asked.{AreDatagramsShown, AreDropsShown, AreLsasShown, IsViewShown, IsWhyAnswered, IsWhyHeadlineAnswered}
use Rattle.ospf_commands.specs.declared.simulation.Simulation.{Simulation}
use Rattle.ospf_commands.proofs.Done.{asked_begun, asked_done, begun_as, done_as}
use Rattle.ospf_commands.proofs.commands.run_command.Goals as goal

pub returns-in-Settle-clause-done : goal.returns-in-Settle-clause-done
returns-in-Settle-clause-done g c = done_as _ (command.Settle c.in-Settle.most) _ _ _ _ _ c.in-Settle.is c.settle.ensures.settles

pub returns-in-Settle-clause-begun : goal.returns-in-Settle-clause-begun
returns-in-Settle-clause-begun g c = begun_as _ (command.Settle c.in-Settle.most) _ _ _ _ _ c.in-Settle.is c.settle.ensures.begun

pub returns-in-Show-clause-done : goal.returns-in-Show-clause-done
returns-in-Show-clause-done g c =
    done_as _ (command.Show c.in-Show.view c.in-Show.router) _ _ _ _ _ c.in-Show.is
    (asked_done (IsViewShown c.in-Show.view c.in-Show.router) _ _ _ _ c.show.ensures.shown)

pub returns-in-Show-clause-begun : goal.returns-in-Show-clause-begun
returns-in-Show-clause-begun g c =
    begun_as _ (command.Show c.in-Show.view c.in-Show.router) _ _ _ _ _ c.in-Show.is
    (asked_begun (IsViewShown c.in-Show.view c.in-Show.router) _ _ _ _ c.show.ensures.begun)

pub returns-in-Walk-clause-done : goal.returns-in-Walk-clause-done
returns-in-Walk-clause-done g c =
    let walked = rw c.deref.ensures.value at c.show_walk.ensures.walked in
    done_as _ (command.Walk c.in-Walk.from c.in-Walk.address c.in-Walk.choices) _ _ _ _ _ c.in-Walk.is
    walked

pub returns-in-Walk-clause-begun : goal.returns-in-Walk-clause-begun
returns-in-Walk-clause-begun g c =
    let begun = rw c.deref.ensures.value at c.show_walk.ensures.begun in
    begun_as _ (command.Walk c.in-Walk.from c.in-Walk.address c.in-Walk.choices) _ _ _ _ _ c.in-Walk.is
    begun

pub returns-in-Why-clause-done : goal.returns-in-Why-clause-done
returns-in-Why-clause-done g c =
    done_as _ (command.Why c.in-Why.router c.in-Why.link c.in-Why.neighbour) _ _ _ _ _ c.in-Why.is
    (asked_done (IsWhyAnswered c.in-Why.router c.in-Why.link c.in-Why.neighbour) _ _ _ _ c.show_why.ensures.explained)

pub returns-in-Why-clause-begun : goal.returns-in-Why-clause-begun
returns-in-Why-clause-begun g c =
    begun_as _ (command.Why c.in-Why.router c.in-Why.link c.in-Why.neighbour) _ _ _ _ _ c.in-Why.is
    (asked_begun (IsWhyAnswered c.in-Why.router c.in-Why.link c.in-Why.neighbour) _ _ _ _ c.show_why.ensures.begun)

pub returns-in-WhyHeadline-clause-done : goal.returns-in-WhyHeadline-clause-done
returns-in-WhyHeadline-clause-done g c =
    done_as _ (command.WhyHeadline c.in-WhyHeadline.router) _ _ _ _ _ c.in-WhyHeadline.is
    (asked_done (IsWhyHeadlineAnswered c.in-WhyHeadline.router) _ _ _ _ c.show_premise.ensures.answered)

pub returns-in-WhyHeadline-clause-begun : goal.returns-in-WhyHeadline-clause-begun
returns-in-WhyHeadline-clause-begun g c =
    begun_as _ (command.WhyHeadline c.in-WhyHeadline.router) _ _ _ _ _ c.in-WhyHeadline.is
    (asked_begun (IsWhyHeadlineAnswered c.in-WhyHeadline.router) _ _ _ _ c.show_premise.ensures.begun)

pub returns-in-Datagrams-clause-done : goal.returns-in-Datagrams-clause-done
returns-in-Datagrams-clause-done g c =
    done_as _ (command.Datagrams c.in-Datagrams.router c.in-Datagrams.most) _ _ _ _ _ c.in-Datagrams.is
    (asked_done (AreDatagramsShown c.in-Datagrams.router c.in-Datagrams.most) _ _ _ _ c.show_datagrams.ensures.shown)

pub returns-in-Datagrams-clause-begun : goal.returns-in-Datagrams-clause-begun
returns-in-Datagrams-clause-begun g c =
    begun_as _ (command.Datagrams c.in-Datagrams.router c.in-Datagrams.most) _ _ _ _ _ c.in-Datagrams.is
    (asked_begun (AreDatagramsShown c.in-Datagrams.router c.in-Datagrams.most) _ _ _ _ c.show_datagrams.ensures.begun)

pub returns-in-Drops-clause-done : goal.returns-in-Drops-clause-done
returns-in-Drops-clause-done g c =
    done_as _ (command.Drops c.in-Drops.router) _ _ _ _ _ c.in-Drops.is
    (asked_done (AreDropsShown c.in-Drops.router) _ _ _ _ c.show_drops.ensures.shown)

pub returns-in-Drops-clause-begun : goal.returns-in-Drops-clause-begun
returns-in-Drops-clause-begun g c =
    begun_as _ (command.Drops c.in-Drops.router) _ _ _ _ _ c.in-Drops.is
    (asked_begun (AreDropsShown c.in-Drops.router) _ _ _ _ c.show_drops.ensures.begun)

pub returns-in-Lsas-clause-done : goal.returns-in-Lsas-clause-done
returns-in-Lsas-clause-done g c =
    done_as _ (command.Lsas c.in-Lsas.router) _ _ _ _ _ c.in-Lsas.is
    (asked_done (AreLsasShown c.in-Lsas.router) _ _ _ _ c.show_lsas.ensures.shown)

pub returns-in-Lsas-clause-begun : goal.returns-in-Lsas-clause-begun
returns-in-Lsas-clause-begun g c =
    begun_as _ (command.Lsas c.in-Lsas.router) _ _ _ _ _ c.in-Lsas.is
    (asked_begun (AreLsasShown c.in-Lsas.router) _ _ _ _ c.show_lsas.ensures.begun)

pub returns-in-Event-clause-told : goal.returns-in-Event-clause-told
returns-in-Event-clause-told g c = on_events _ _ _ _ _ c.run_event.ensures.told

pub returns-in-Many-clause-told : goal.returns-in-Many-clause-told
returns-in-Many-clause-told g c = on_events _ _ _ _ _ c.run_at_many.ensures.told

pub returns-in-Walk-clause-told : goal.returns-in-Walk-clause-told
returns-in-Walk-clause-told g c = on_same_world _ _ _ _ _ _ c.show_walk.ensures.world

pub returns-in-Loss-clause-told : goal.returns-in-Loss-clause-told
returns-in-Loss-clause-told g c = on_same_world _ _ _ _ _ _ c.lose.ensures.world

pub returns-in-Expect-clause-told : goal.returns-in-Expect-clause-told
returns-in-Expect-clause-told g c = on_same_world _ _ _ _ _ _ c.judge.ensures.world

pub returns-in-Label-clause-told : goal.returns-in-Label-clause-told
returns-in-Label-clause-told g c = on_same_world _ _ _ _ _ _ (ap (λ (s : Simulation). s.world) c.label.ensures.labelled)

pub returns-in-Show-clause-told : goal.returns-in-Show-clause-told
returns-in-Show-clause-told g c = on_nowhere _ _ _ _ _ refl

pub returns-in-Say-clause-told : goal.returns-in-Say-clause-told
returns-in-Say-clause-told g c = on_nowhere _ _ _ _ _ refl

pub returns-in-Why-clause-told : goal.returns-in-Why-clause-told
returns-in-Why-clause-told g c = on_nowhere _ _ _ _ _ refl

pub returns-in-WhyHeadline-clause-told : goal.returns-in-WhyHeadline-clause-told
returns-in-WhyHeadline-clause-told g c = on_nowhere _ _ _ _ _ refl

pub returns-in-Datagrams-clause-told : goal.returns-in-Datagrams-clause-told
returns-in-Datagrams-clause-told g c = on_nowhere _ _ _ _ _ refl

pub returns-in-Drops-clause-told : goal.returns-in-Drops-clause-told
returns-in-Drops-clause-told g c = on_nowhere _ _ _ _ _ refl

pub returns-in-Lsas-clause-told : goal.returns-in-Lsas-clause-told
returns-in-Lsas-clause-told g c = on_nowhere _ _ _ _ _ refl
