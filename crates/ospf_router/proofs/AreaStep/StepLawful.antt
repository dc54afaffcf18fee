-- A step is the chain of its parts, and so keeps the laws of a step.
use Rattle.std.proofs.Common.{◌≡◌, ◌≢◌, ◌++◌, ℕ, false, List, [], Option, None, Some, Result, Ok, Err, IfOk, OnOk, is_some, refl, sym, ap, subst, ◌∙◌}
use Rattle.std.proofs.lemmas.List.{append-nil}
use Rattle.std.proofs.lemmas.Option.{none-some}
use Rattle.std.specs.declared.alloc.AllocError.{AllocError}
use Rattle.ospf_base.specs.declared.ids.Addr.{Addr}
use Rattle.ospf_lsdb.specs.Database.{IsDatabase}
use Rattle.ospf_packet.specs.Meaning.{BodyMeaning, Meaning, hello, description, request, update, acknowledgment}
use Rattle.ospf_packet.specs.PacketOf.{packet_of}
use Rattle.ospf_area.specs.Outputs.{AreReadAsSent, OutputsValue, no_outputs}
use Rattle.ospf_area.specs.Sending.{and_sends}
use Rattle.ospf_area.specs.State.{AreaValue}
use Rattle.ospf_adjacency.specs.Heard.{names}
use Rattle.ospf_adjacency.specs.HelloLaws.{ElectionsComeAbout, NeighboursStayOfLink}
use Rattle.ospf_originate.specs.Laws.{AreaStaysSound}
use Rattle.ospf_adjacency.specs.ResendLaws.{RepeatsAreQuiet}
use Rattle.ospf_router.specs.declared.step.dropped.Dropped.{Dropped}
use Rattle.ospf_router.specs.AreaStep.Accounts.{Accounts}
use Rattle.ospf_router.specs.AreaStep.Puts.{PutsOut}
use Rattle.ospf_router.specs.AreaStep.Step.{Chain, Event, Part, StepLaws, first_parts, heard_in, last_parts}
use Rattle.ospf_router.specs.AreaStep.Step.Event.{Datagram, Tick, LinkUp, LinkDown}
use Rattle.ospf_router.specs.AreaStep.Words.{IsSoundState}
use Rattle.ospf_router.proofs.AreaStep.Chains.{step_from_chain}
use Rattle.ospf_router.proofs.AreaStep.StepAccounts.{StepLaws-accounts, StepLaws-sound}
use Rattle.ospf_router.proofs.AreaStep.StepChains.{acknowledgment_chain, description_chain, down_chain, hello_chain, request_chain, up_chain, update_chain, ends_put, tick_puts}
use Rattle.ospf_router.specs.AreaStep.Drops.{is_dropped}
use Rattle.ospf_router.specs.AreaStep.Fit.{IsFitRouter, IsFitLink}
use Rattle.ospf_router.specs.AreaStep.Lawful.{StepsAreLawful}
use Rattle.ospf_router.specs.AreaStep.Invariants.{AreRising, NoneWaitsBelow}
use Rattle.ospf_router.specs.AreaStep.Ready.{IsReadyFor}
use Rattle.ospf_router.specs.AreaStep.Steps.{StepsArea, Takes}
use Rattle.ospf_router.specs.AreaStep.Ticks.{TakesTick}
use Rattle.ospf_router.proofs.AreaStep.Works.{acknowledged_is, tick_state}
use Rattle.ospf_router.specs.AreaStep.Takes.{TakesBody, TakesDatagram, TakesEvent, source_of}
use Rattle.ospf_router.specs.declared.step.steps.StepResult.{StepResult}
use Rattle.ospf_router.proofs.AreaStep.FitLemmas.{all_at}
use Rattle.ospf_router.proofs.AreaStep.StepFit.{aged_fit, ticked_fit}

-- no datagrams more
none_sent : (out out' : OutputsValue) → out' ≡ and_sends out [] → out' ≡ out
none_sent out out' is = is ∙ ap (λ sent. record out { sent = sent }) (append-nil out.sent)

links_rise : (s : AreaValue) → IsFitRouter s → AreRising s.links
links_rise s fit l link at = (all_at (IsFitLink s.router) s.links l link fit.links at).neighbours.rising

-- ---- an event, in front of what follows

module _ (stay : NeighboursStayOfLink) (come : ElectionsComeAbout) (repeats : RepeatsAreQuiet) (area : AreaStaysSound) (rest : List Part) (s t u : AreaValue) (out mid_out out' : OutputsValue) (read : AreReadAsSent out'.sent) (next : PutsOut (λ o. Chain rest t o u) mid_out out') where
  datagram_puts : (link : ℕ) (source destination : Addr) (bytes : List ℕ) (o : Option Meaning) → packet_of bytes ≡ o → ((m : Meaning) → o ≡ Some m → IsDatabase s.database × NoneWaitsBelow s link m.router) → TakesDatagram link source o s out mid_out t
      → PutsOut (λ o. Chain (first_parts (Datagram link source destination bytes) ++ rest) s o u) out out'
  datagram_puts link source destination bytes None at ready is = absurd is
  datagram_puts link source destination bytes (Some m) at ready is = by_body m.body refl is
    where
      by_body : (b : BodyMeaning) → m.body ≡ b → TakesBody b (source_of link source m) s out mid_out t → PutsOut (λ o. Chain (first_parts (Datagram link source destination bytes) ++ rest) s o u) out out'
      by_body (hello fields heard) says is = hello_chain link source destination bytes m at rest s t u out mid_out out' read next fields heard (names heard s.router) says is
      by_body (description fields headers) says is = description_chain link source destination bytes m at rest s t u out mid_out out' read next fields headers (ready m refl).0 (ready m refl).1 says is
      by_body (request entries) says is = request_chain link source destination bytes m at rest s t u out mid_out out' read next entries _ (ready m refl).0 says is
      by_body (update lsas) says is = update_chain link source destination bytes m at rest s t u out mid_out out' read next lsas says is
      by_body (acknowledgment headers) says is = acknowledgment_chain link source destination bytes m at rest s t u out mid_out out' read next headers says is.state (none_sent out mid_out is.outputs)

  -- a tick leaves the database as its ages leave it
  take_tick_puts : IsFitRouter s → IsDatabase t.database → TakesTick s out mid_out t → PutsOut (λ o. Chain (first_parts Tick ++ rest) s o u) out out'
  take_tick_puts fit after is =
      let aged : IsDatabase is.aged.database = subst IsDatabase (ap (λ (x : AreaValue). x.database) (tick_state s out mid_out t is)) after in
      let aged_fits : IsFitRouter is.aged = aged_fit stay come repeats area s out is.aged_out is.aged is.ages fit in
      let ticked_fits : IsFitRouter is.acknowledged = subst IsFitRouter (sym (acknowledged_is s out mid_out t is)) (ticked_fit stay come repeats area is.aged aged_fits) in
      tick_puts rest s t u out mid_out out' is aged (links_rise is.aged aged_fits) (links_rise is.acknowledged ticked_fits) read next

  event_puts : (e : Event) → IsFitRouter s → IsDatabase t.database → IsReadyFor e s → TakesEvent e s out mid_out t → PutsOut (λ o. Chain (first_parts e ++ rest) s o u) out out'
  event_puts (Datagram link source destination bytes) fit after ready is = datagram_puts link source destination bytes (packet_of bytes) refl ready is
  event_puts Tick fit after ready is = take_tick_puts fit after is
  event_puts (LinkUp link) fit after ready is = up_chain link rest s t u out mid_out out' next read is.state is.outputs
  event_puts (LinkDown link) fit after ready is = down_chain link rest s t u out mid_out out' next is.state (none_sent out mid_out is.outputs)

-- ---- a step

module _ (stay : NeighboursStayOfLink) (come : ElectionsComeAbout) (repeats : RepeatsAreQuiet) (area : AreaStaysSound) where
  takes_laws : (e : Event) (s : AreaValue) (out : OutputsValue) (s' : AreaValue) → IsFitRouter s → is_dropped e s ≡ false → Takes e s out s' → StepLaws is_dropped e s out s'
  takes_laws e s out s' fit taken is =
      let end = is.end in
      let ends = ends_put is.mid end.elected end.issued s' is.mid_out end.elected_out end.issued_out out end.database end.issued_database end.read end.elects end.own end.removes in
      step_from_chain is_dropped e s out s' taken end.read (event_puts stay come repeats area last_parts s is.mid s' no_outputs is.mid_out out end.read ends e fit end.database is.ready is.event)

  pub steps_lawful : (e : Event) (s : AreaValue) (dropped : Option Dropped) (out : OutputsValue) (s' : AreaValue) → IsFitRouter s → StepsArea e s dropped out s' → StepLaws is_dropped e s out s'
  steps_lawful e s dropped out s' fit is = by_cause dropped refl
    where
      by_cause : (o : Option Dropped) → dropped ≡ o → StepLaws is_dropped e s out s'
      by_cause None none = takes_laws e s out s' fit (ap is_some (sym is.cause ∙ none)) (is.takes none)
      by_cause (Some d) some =
          let cut : dropped ≢ None = λ none. none-some d (sym none ∙ some) in
          StepLaws.Drops (ap is_some (sym is.cause ∙ some)) (record { state = is.unchanged cut; outputs = is.silent cut })

  pub step_laws : (r : Result StepResult AllocError) (e : Event) (s s' : AreaValue) → IsFitRouter s → IfOk r (λ t. StepsArea e s t.dropped t.out s') → IfOk r (λ t. StepLaws is_dropped e s t.out s')
  step_laws (Err x) e s s' fit is = tt
  step_laws (Ok t) e s s' fit is = steps_lawful e s t.dropped t.out s' fit is

  -- the same of all steps, and what they answer for
  pub all_lawful : StepsAreLawful
  all_lawful e s dropped out s' fit sound is =
      let laws = steps_lawful e s dropped out s' fit is in
      record { laws = laws; accounts = StepLaws-accounts is_dropped e s out s' sound laws }

-- ---- what a step answers for

pub laws_account : (r : Result StepResult AllocError) (e : Event) (s s' : AreaValue) → IsSoundState s → IfOk r (λ t. StepLaws is_dropped e s t.out s') → IfOk r (λ t. Accounts (heard_in e) s t.out s')
laws_account (Err x) e s s' sound is = tt
laws_account (Ok t) e s s' sound is = StepLaws-accounts is_dropped e s t.out s' sound is

pub laws_sound : (r : Result StepResult AllocError) (e : Event) (s s' : AreaValue) → IsSoundState s → IfOk r (λ t. StepLaws is_dropped e s t.out s') → OnOk r (IsSoundState s')
laws_sound (Err x) e s s' sound is = tt
laws_sound (Ok t) e s s' sound is = StepLaws-sound is_dropped e s t.out s' sound is
