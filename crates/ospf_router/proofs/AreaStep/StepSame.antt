-- No step changes the Router ID or the number of links.
use Rattle.std.proofs.Common.{◌≡◌, false, is_some, true, ℕ, zero, suc, List, Option, None, Some, Result, Ok, Err, IfOk, OnOk, ◌≢◌, map, length, slice_get, refl, sym, ap, subst, ◌∙◌}
use Rattle.std.proofs.lemmas.List.{length-map, length-set}
use Rattle.ospf_base.specs.declared.ids.Addr.{Addr}
use Rattle.ospf_base.specs.declared.ids.LsaKey.{LsaKey}
use Rattle.ospf_adjacency.specs.Heard.{Neighbourhood, names}
use Rattle.ospf_area.specs.Outputs.{OutputsValue, no_outputs}
use Rattle.ospf_area.specs.Sending.{context_of}
use Rattle.ospf_area.specs.State.{AreaValue, LinkValue}
use Rattle.ospf_area.specs.declared.flooding.PacketSource.{PacketSource}
use Rattle.ospf_router.specs.AreaStep.Step.{Event}
use Rattle.ospf_router.specs.AreaStep.Step.Event.{Datagram, Tick, LinkUp, LinkDown}
use Rattle.ospf_adjacency.specs.LinkSteps.Elections.{ElectsAt, ElectsFrom}
use Rattle.ospf_adjacency.specs.LinkSteps.Parts.{description_part, hello_part, link_down, link_timed, link_up, request_part, with_neighbourhood}
use Rattle.ospf_adjacency.specs.LinkSteps.Repeats.{link_repeated}
use Rattle.ospf_adjacency.specs.LinkSteps.Works.{link_changed}
use Rattle.ospf_adjacency.proofs.LinkSteps.Words.{hello_sent, some_changed, worked, worked_by, ElectsThere}
use Rattle.ospf_packet.specs.Meaning.{BodyMeaning, Meaning, hello, description, request, update, acknowledgment}
use Rattle.ospf_packet.specs.PacketOf.{packet_of}
use Rattle.ospf_area.proofs.Updates.Words.{undelayed_link}
use Rattle.ospf_router.specs.AreaStep.Ends.{EndsStep}
use Rattle.ospf_router.specs.AreaStep.Same.{IsSameRouter}
use Rattle.ospf_router.specs.declared.step.dropped.Dropped.{Dropped}
use Rattle.ospf_router.specs.AreaStep.Drops.{dropped_by}
use Rattle.ospf_router.specs.AreaStep.Ready.{IsReadyFor}
use Rattle.ospf_router.specs.AreaStep.Steps.{StepsArea, Takes}
use Rattle.ospf_router.specs.declared.step.steps.StepResult.{StepResult}
use Rattle.std.specs.declared.alloc.AllocError.{AllocError}
use Rattle.std.proofs.lemmas.Option.{none-some}
use Rattle.ospf_router.proofs.AreaStep.Works.{tick_state}
use Rattle.ospf_router.specs.AreaStep.Takes.{TakesBody, TakesDatagram, TakesEvent, source_of}
use Rattle.ospf_router.specs.AreaStep.Ticks.{TakesTick}
use Rattle.ospf_router.proofs.AreaStep.AreaSame.{IsAs, age_as, headers_as, own_as, removes_as, update_as}

abbrev IsStill : AreaValue → AreaValue → Type 0
IsStill s t = IsAs s.router (length s.links) t

itself : (s : AreaValue) → IsStill s s
itself s = record { own = refl; many = refl }

then : (s t u : AreaValue) → IsStill s t → IsStill t u → IsStill s u
then s t u first next = record { own = next.own ∙ first.own; many = next.many ∙ first.many }

moved : (s t u : AreaValue) → u ≡ t → IsStill s t → IsStill s u
moved s t u is as_was = subst (λ (x : AreaValue). IsStill s x) (sym is) as_was

worked_as : (part : LinkValue → Neighbourhood) (l : ℕ) (sent : List LsaKey) (s : AreaValue) → IsStill s (worked part l (record s { sent = sent }))
worked_as part l sent s = by_link (slice_get s.links l)
  where
    by_link : (o : Option LinkValue) → IsStill s (worked_by o part l (record s { sent = sent }))
    by_link None = record { own = refl; many = refl }
    by_link (Some a) = record { own = refl; many = length-set s.links l (with_neighbourhood (part a) a) }

changed_as : (change : LinkValue → LinkValue) (l : ℕ) (s : AreaValue) → IsStill s (link_changed change l s)
changed_as change l s = by_link (slice_get s.links l)
  where
    by_link : (o : Option LinkValue) → IsStill s (some_changed o change l s)
    by_link None = itself s
    by_link (Some a) = record { own = refl; many = length-set s.links l (change a) }

body_as : (body : BodyMeaning) (f : PacketSource) (s : AreaValue) (out out' : OutputsValue) (s' : AreaValue) → TakesBody body f s out out' s' → IsStill s s'
body_as (hello fields heard) f s out out' s' is = moved s _ s' is.state (worked_as (hello_part (context_of s) f fields (names heard s.router) s.next_dd) f.link s.sent s)
body_as (description fields headers) f s out out' s' is = moved s _ s' is.state (worked_as (description_part (context_of s) f fields headers s.database s.next_dd) f.link s.sent s)
body_as (request entries) f s out out' s' is = moved s _ s' is.state (worked_as (request_part (context_of s) f s.database entries s.next_dd) f.link _ s)
body_as (update lsas) f s out out' s' is = update_as s.router (length s.links) f lsas s out out' s' is (itself s)
body_as (acknowledgment headers) f s out out' s' is = moved s _ s' is.state (headers_as s.router (length s.links) f headers s (itself s))

tick_as : (s : AreaValue) (out out' : OutputsValue) (s' : AreaValue) → TakesTick s out out' s' → IsStill s s'
tick_as s out out' s' is =
    let a = is.aged in
    let aged : IsStill s a = age_as s.router (length s.links) s out is.aged_out a is.ages (itself s) in
    moved s _ s' (tick_state s out out' s' is) (record {
      own = aged.own;
      many = length-map _ (link_repeated (context_of a) a.database) ∙ (length-map (map hello_sent (map link_timed a.links)) undelayed_link ∙ (length-map (map link_timed a.links) hello_sent ∙ (length-map a.links link_timed ∙ aged.many)));
    })

datagram_as : (link : ℕ) (source : Addr) (o : Option Meaning) (s : AreaValue) (out out' : OutputsValue) (s' : AreaValue) → TakesDatagram link source o s out out' s' → IsStill s s'
datagram_as link source None s out out' s' is = absurd is
datagram_as link source (Some m) s out out' s' is = body_as m.body (source_of link source m) s out out' s' is

event_as : (e : Event) (s : AreaValue) (out out' : OutputsValue) (s' : AreaValue) → TakesEvent e s out out' s' → IsStill s s'
event_as (Datagram link source destination bytes) s out out' s' is = datagram_as link source (packet_of bytes) s out out' s' is
event_as Tick s out out' s' is = tick_as s out out' s' is
event_as (LinkUp link) s out out' s' is = moved s _ s' is.state (changed_as link_up link s)
event_as (LinkDown link) s out out' s' is = moved s _ s' is.state (changed_as link_down link s)

elects_at_as : (l : ℕ) (s : AreaValue) (out : OutputsValue) (s' : AreaValue) (out' : OutputsValue) → ElectsAt l s out out' s' → IsStill s s'
elects_at_as l s out s' out' is = by_link (slice_get s.links l) is
  where
    by_link : (o : Option LinkValue) → ElectsThere o l s out s' out' → IsStill s s'
    by_link None is = moved s s s' is.0 (itself s)
    by_link (Some a) (b, next, sent, elects, state, outputs) = moved s _ s' state (record { own = refl; many = length-set s.links l b })

elects_as : (l : ℕ) (s : AreaValue) (out : OutputsValue) (s' : AreaValue) (out' : OutputsValue) → ElectsFrom l s out out' s' → IsStill s s'
elects_as zero s out s' out' is = moved s s s' is.0 (itself s)
elects_as (suc l) s out s' out' (mid, mid_out, first, last) = then s mid s' (elects_as l s out mid mid_out first) (elects_at_as l mid mid_out s' out' last)

ends_as : (s : AreaValue) (out out' : OutputsValue) (s' : AreaValue) → EndsStep s out out' s' → IsStill s s'
ends_as s out out' s' is =
    let elected = elects_as (length s.links) s out is.elected is.elected_out is.elects in
    let issued = own_as s.router (length s.links) is.elected is.elected_out is.issued_out is.issued is.own elected in
    removes_as s.router (length s.links) is.issued is.issued_out out' s' is.removes issued

pub takes_same : (e : Event) (s : AreaValue) (out : OutputsValue) (s' : AreaValue) → Takes e s out s' → IsSameRouter s s'
takes_same e s out s' is =
    let first = event_as e s no_outputs is.mid_out is.mid is.event in
    let both = then s is.mid s' first (ends_as is.mid is.mid_out out s' is.end) in
    record { router = both.own; links = both.many }

-- a step whose event was taken, and that has ended
pub taken_steps : (e : Event) (s mid after : AreaValue) (o mid_out out : OutputsValue) (d : Option Dropped) → o ≡ no_outputs → is_some d ≡ false → d ≡ dropped_by e s
    → (d ≡ None → IsReadyFor e s) → (d ≡ None → TakesEvent e s o mid_out mid) → EndsStep mid mid_out out after → StepsArea e s d out after
taken_steps e s mid after o mid_out out (Some d) empty taken cause ready takes ends = absurd cc
taken_steps e s mid after o mid_out out None empty taken cause ready takes ends = record {
  cause = cause;
  unchanged = λ some. absurd (some refl);
  silent = λ some. absurd (some refl);
  takes = λ none. record { ready = ready none; mid = mid; mid_out = mid_out; event = subst (λ (x : OutputsValue). TakesEvent e s x mid_out mid) empty (takes none); end = ends };
}

-- a step whose event was dropped
pub dropped_steps : (e : Event) (s after : AreaValue) (o out : OutputsValue) (d : Option Dropped) → o ≡ no_outputs → is_some d ≡ true → d ≡ dropped_by e s
    → (d ≢ None → after ≡ s) → (d ≢ None → out ≡ o) → StepsArea e s d out after
dropped_steps e s after o out None empty dropped cause unchanged silent = absurd cc
dropped_steps e s after o out (Some d) empty dropped cause unchanged silent =
    record { cause = cause; unchanged = unchanged; silent = λ some. silent some ∙ empty; takes = λ none. absurd cc }

pub step_same : (r : Result StepResult AllocError) (e : Event) (s s' : AreaValue) → IfOk r (λ t. StepsArea e s t.dropped t.out s') → OnOk r (IsSameRouter s s')
step_same (Err x) e s s' is = tt
step_same (Ok t) e s s' is = by_cause t.dropped refl
  where
    by_cause : (o : Option Dropped) → t.dropped ≡ o → IsSameRouter s s'
    by_cause None none = takes_same e s t.out s' (is.takes none)
    by_cause (Some d) some = let still = is.unchanged (λ none. none-some d (sym none ∙ some)) in record { router = ap (λ (x : AreaValue). x.router) still; links = ap (λ (x : AreaValue). length x.links) still }
