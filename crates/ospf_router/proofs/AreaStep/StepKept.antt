-- A step by the rules leaves a router as fit and as sound as it was.
use Rattle.std.proofs.Common.{◌≡◌, ◌≢◌, ℕ, List, Option, None, Some, length, refl, sym, subst, ◌∙◌}
use Rattle.std.proofs.lemmas.Option.{none-some}
use Rattle.ospf_base.specs.declared.ids.Addr.{Addr}
use Rattle.ospf_packet.specs.Meaning.{Meaning}
use Rattle.ospf_packet.specs.PacketOf.{packet_of}
use Rattle.ospf_area.specs.Outputs.{OutputsValue, no_outputs}
use Rattle.ospf_area.specs.State.{AreaValue}
use Rattle.ospf_adjacency.specs.HelloLaws.{ElectionsComeAbout, NeighboursStayOfLink}
use Rattle.ospf_adjacency.specs.Laws.{DescriptionKeepsRouter}
use Rattle.ospf_adjacency.specs.ResendLaws.{AnswersAreQuiet, RepeatsAreQuiet}
use Rattle.ospf_originate.specs.Laws.{AreaStaysSound, OwnStaySound}
use Rattle.ospf_router.specs.declared.step.dropped.Dropped.{Dropped}
use Rattle.ospf_router.specs.AreaStep.Drops.{dropped_by, is_dropped}
use Rattle.ospf_router.specs.AreaStep.Fit.{IsFitRouter}
use Rattle.ospf_router.specs.AreaStep.Lawful.{StepsStayKept}
use Rattle.ospf_router.specs.AreaStep.Senders.{NotDroppedIsTaken}
use Rattle.ospf_router.specs.AreaStep.Step.{Event}
use Rattle.ospf_router.specs.AreaStep.Step.Event.{Datagram, Tick, LinkUp, LinkDown}
use Rattle.ospf_router.specs.AreaStep.Steps.{StepsArea, Takes}
use Rattle.ospf_router.specs.AreaStep.Takes.{TakesDatagram, TakesEvent, source_of}
use Rattle.ospf_router.proofs.AreaStep.DropFacts.{can_come, not_dropped_as}
use Rattle.ospf_router.proofs.AreaStep.StepAccounts.{StepLaws-sound}
use Rattle.ospf_router.proofs.AreaStep.StepFit.{body_fit, down_fit, elects_fit, own_fit, removes_fit, tick_fit, up_fit}
use Rattle.ospf_router.proofs.AreaStep.StepLawful.{steps_lawful}

module _ (taken : NotDroppedIsTaken) (stay : NeighboursStayOfLink) (come : ElectionsComeAbout) (keeps : DescriptionKeepsRouter) (answers : AnswersAreQuiet) (repeats : RepeatsAreQuiet) (area : AreaStaysSound) (own : OwnStaySound) where
  datagram_fit : (link : ℕ) (source destination : Addr) (bytes : List ℕ) (s : AreaValue) (out out' : OutputsValue) (s' : AreaValue) (o : Option Meaning) → packet_of bytes ≡ o
      → dropped_by (Datagram link source destination bytes) s ≡ None → TakesDatagram link source o s out out' s' → IsFitRouter s → IsFitRouter s'
  datagram_fit link source destination bytes s out out' s' None at none is fit = absurd is
  datagram_fit link source destination bytes s out out' s' (Some m) at none is fit =
      body_fit stay come keeps answers area m.body (source_of link source m) s out out' s'
      (can_come taken s link source destination m fit (not_dropped_as s link source destination _ m at none)) is fit

  event_fit : (e : Event) (s : AreaValue) (out out' : OutputsValue) (s' : AreaValue) → dropped_by e s ≡ None → TakesEvent e s out out' s' → IsFitRouter s → IsFitRouter s'
  event_fit (Datagram link source destination bytes) s out out' s' none is fit = datagram_fit link source destination bytes s out out' s' (packet_of bytes) refl none is fit
  event_fit Tick s out out' s' none is fit = tick_fit stay come repeats area s out out' s' is fit
  event_fit (LinkUp link) s out out' s' none is fit = subst IsFitRouter (sym is.state) (up_fit link s fit)
  event_fit (LinkDown link) s out out' s' none is fit = subst IsFitRouter (sym is.state) (down_fit link s fit)

  takes_fit : (e : Event) (s : AreaValue) (out : OutputsValue) (s' : AreaValue) → dropped_by e s ≡ None → Takes e s out s' → IsFitRouter s → IsFitRouter s'
  takes_fit e s out s' none is fit =
      let end = is.end in
      let mid : IsFitRouter is.mid = event_fit e s no_outputs is.mid_out is.mid none is.event fit in
      let elected : IsFitRouter end.elected = elects_fit stay is.mid is.mid_out end.elected end.elected_out end.elects mid in
      let issued : IsFitRouter end.issued = own_fit own end.elected end.elected_out end.issued_out end.issued end.own elected in
      removes_fit area end.issued end.issued_out out s' end.issued_database end.removes issued

  steps_fit : (e : Event) (s : AreaValue) (dropped : Option Dropped) (out : OutputsValue) (s' : AreaValue) → StepsArea e s dropped out s' → IsFitRouter s → IsFitRouter s'
  steps_fit e s dropped out s' is fit = by_cause dropped refl
    where
      by_cause : (o : Option Dropped) → dropped ≡ o → IsFitRouter s'
      by_cause None none = takes_fit e s out s' (sym is.cause ∙ none) (is.takes none) fit
      by_cause (Some d) some = subst IsFitRouter (sym (is.unchanged (λ none. none-some d (sym none ∙ some)))) fit

  pub all_kept : StepsStayKept
  all_kept e s dropped out s' fit sound is = (
    steps_fit e s dropped out s' is fit,
    StepLaws-sound is_dropped e s out s' sound (steps_lawful stay come repeats area e s dropped out s' fit is),
  )
