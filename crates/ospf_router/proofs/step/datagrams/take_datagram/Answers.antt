-- ospf_step/proofs/datagrams/take_datagram/Answers.antt
use Rattle.std.proofs.Common.{Option, subst, sym, ◌∙◌}
use Rattle.std.proofs.lemmas.Option.{same_Some}
use Rattle.ospf_packet.specs.Meaning.{Meaning}
use Rattle.ospf_packet.specs.Said.{said}
use Rattle.ospf_router.specs.AreaStep.Invariants.{NoneWaitsBelow}
use Rattle.ospf_router.specs.AreaStep.Takes.{TakesDatagram, source_of}
use Rattle.ospf_router.proofs.AreaStep.DropFacts.{can_come, can_take, not_dropped_as}
use Rattle.ospf_router.proofs.AreaStep.StepFit.{body_fit}
use Rattle.ospf_router.proofs.step.datagrams.take_datagram.Goals as goal

pub take_body-requires : goal.take_body-requires
take_body-requires c =
    let s = c.args.area.now in
    let m = said c.in-Ok.packet in
    can_take c.not_dropped_is_taken.ensures s c.args.link c.args.source c.args.destination m c.requires
    (not_dropped_as s c.args.link c.args.source c.args.destination _ m c.in-Ok.ensures.packet c.in-Ok.ensures.taken)

pub returns-clause-sender : goal.returns-clause-sender
returns-clause-sender c = λ none m at. (
  c.database_is_one.ensures,
  subst (λ (p : Meaning). NoneWaitsBelow c.args.area.now c.args.link p.router) (same_Some (said c.in-Ok.packet) m (sym c.in-Ok.ensures.packet ∙ at)) c.none_waits_below.ensures,
)

pub returns-clause-takes : goal.returns-clause-takes
returns-clause-takes c = λ none.
    subst (λ (o : Option Meaning). TakesDatagram c.args.link c.args.source o c.args.area.now c.args.out.now c.take_body.new.out c.take_body.new.area) (sym c.in-Ok.ensures.packet) c.in_ok-take_body.ensures

pub returns-clause-fit : goal.returns-clause-fit
returns-clause-fit c =
    let s = c.args.area.now in
    let m = said c.in-Ok.packet in
    body_fit c.neighbours_stay_of_link.ensures c.elections_come_about.ensures c.description_keeps_router.ensures c.answers_are_quiet.ensures c.area_stays_sound.ensures
    m.body (source_of c.args.link c.args.source m) s c.args.out.now c.take_body.new.out c.take_body.new.area
    (can_come c.not_dropped_is_taken.ensures s c.args.link c.args.source c.args.destination m c.requires
    (not_dropped_as s c.args.link c.args.source c.args.destination _ m c.in-Ok.ensures.packet c.in-Ok.ensures.taken)) c.in_ok-take_body.ensures c.requires
