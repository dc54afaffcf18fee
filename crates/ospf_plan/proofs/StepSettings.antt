-- No step changes the Router ID, the area or the settings of a link.
use Rattle.std.proofs.Common.{◌≡◌, ℕ, zero, suc, Bool, true, false, List, [], Option, None, Some, ◌-◌, length, map, nat_le, slice_get, refl, sym, ap, ◌∙◌, if◌then◌else◌}
use Rattle.std.proofs.lemmas.Option.{none-some}
use Rattle.ospf_base.specs.declared.ids.Addr.{Addr}
use Rattle.ospf_base.specs.declared.ids.LsaKey.{LsaKey}
use Rattle.ospf_neighbour.specs.Interface.Machine.{is_down, iface_stopped, started}
use Rattle.ospf_neighbour.specs.declared.iface.machine.Iface.{Iface}
use Rattle.ospf_neighbour.specs.declared.iface.settings.IfaceSettings.{IfaceSettings}
use Rattle.ospf_packet.specs.Meaning.{BodyMeaning, Meaning, hello, description, request, update, acknowledgment}
use Rattle.ospf_packet.specs.PacketOf.{packet_of}
use Rattle.ospf_area.specs.Outputs.{OutputsValue, no_outputs}
use Rattle.ospf_area.specs.Packets.{PendingPacket}
use Rattle.ospf_area.specs.Sending.{context_of}
use Rattle.ospf_area.specs.State.{AreaValue, LinkValue}
use Rattle.ospf_area.specs.declared.flooding.PacketSource.{PacketSource}
use Rattle.ospf_area.specs.declared.sending.RouterContext.{RouterContext}
use Rattle.ospf_area.specs.declared.state.LinkSettings.{LinkSettings}
use Rattle.ospf_adjacency.specs.Heard.{Neighbourhood, names}
use Rattle.ospf_area.proofs.Updates.Words.{undelayed_link}
use Rattle.ospf_adjacency.specs.LinkSteps.Elections.{ElectsAt, ElectsFrom, ElectsIf}
use Rattle.ospf_adjacency.specs.LinkSteps.Parts.{description_part, hello_part, link_down, link_timed, link_up, request_part, with_neighbourhood}
use Rattle.ospf_adjacency.specs.LinkSteps.Repeats.{link_repeated}
use Rattle.ospf_adjacency.specs.LinkSteps.Works.{link_changed}
use Rattle.ospf_adjacency.proofs.LinkSteps.Words.{ElectsThere, hello_sent, some_changed, worked, worked_by}
use Rattle.ospf_router.specs.AreaStep.Ends.{EndsStep}
use Rattle.ospf_router.specs.AreaStep.Step.{Event}
use Rattle.ospf_router.specs.AreaStep.Step.Event.{Datagram, Tick, LinkUp, LinkDown}
use Rattle.ospf_router.specs.AreaStep.Steps.{StepsArea, Takes}
use Rattle.ospf_router.specs.AreaStep.Takes.{TakesBody, TakesDatagram, TakesEvent, source_of}
use Rattle.ospf_router.specs.AreaStep.Ticks.{TakesTick}
use Rattle.ospf_router.specs.declared.step.dropped.Dropped.{Dropped}
use Rattle.ospf_plan.proofs.SettingsLemmas.{IsAs, age_as, along, fixed, headers_as, mapped_fixed, own_as, removes_as, set_fixed, update_as}

-- ---- a link

paired : (i j : IfaceSettings) (k l : LinkSettings) → i ≡ j → k ≡ l → ◌≡◌ {A = IfaceSettings × LinkSettings} (i, k) (j, l)
paired i j k l first second = cc

hello_fixed : (x : LinkValue) → fixed (hello_sent x) ≡ fixed x
hello_fixed x = by_test (is_down x.iface.state)
  where
    by_test : (b : Bool) → fixed (record x { iface = (if b then x.iface else record x.iface { hello_in = (if nat_le x.iface.hello_in 1 then x.iface.settings.hello else x.iface.hello_in - 1) }) }) ≡ fixed x
    by_test true = refl
    by_test false = refl

up_fixed : (x : LinkValue) → fixed (link_up x) ≡ fixed x
up_fixed x = by_test (is_down x.iface.state)
  where
    by_test : (b : Bool) → fixed (record x { iface = (if b then started x.iface else x.iface) }) ≡ fixed x
    by_test true = refl
    by_test false = refl

down_fixed : (x : LinkValue) → fixed (link_down x) ≡ fixed x
down_fixed x = by_test (is_down x.iface.state)
  where
    by_test : (b : Bool) → fixed (if b then x else record x { iface = (if b then x.iface else iface_stopped x.iface); neighbours = []; delayed = []; elects = false }) ≡ fixed x
    by_test true = refl
    by_test false = refl

elected_fixed : (due : Bool) (own : RouterContext) (next : ℕ) (a b : LinkValue) (next' : ℕ) (sent : List PendingPacket) → ElectsIf due own next a b next' sent → fixed b ≡ fixed a
elected_fixed false own next a b next' sent is = ap fixed is.0
elected_fixed true own next a b next' sent is =
    paired b.iface.settings a.iface.settings b.settings a.settings (ap (λ (i : Iface). i.settings) is.0.interface) (ap (λ (x : LinkValue). x.settings) is.1)

-- ---- the router

moved : (s t u : AreaValue) → u ≡ t → IsAs s t → IsAs s u
moved s t u is as_was = along s t u is as_was

pub itself : (s : AreaValue) → IsAs s s
itself s = record { own = refl; area = refl; links = refl }

pub joined : (s t u : AreaValue) → IsAs s t → IsAs t u → IsAs s u
joined s t u first next = record { own = next.own ∙ first.own; area = next.area ∙ first.area; links = next.links ∙ first.links }

worked_as : (part : LinkValue → Neighbourhood) (l : ℕ) (sent : List LsaKey) (s : AreaValue) → IsAs s (worked part l (record s { sent = sent }))
worked_as part l sent s = by_link (slice_get s.links l) refl
  where
    by_link : (o : Option LinkValue) → slice_get s.links l ≡ o → IsAs s (worked_by o part l (record s { sent = sent }))
    by_link None at = record { own = refl; area = refl; links = refl }
    by_link (Some a) at = record { own = refl; area = refl; links = set_fixed s.links l a (with_neighbourhood (part a) a) at refl }

changed_as : (change : LinkValue → LinkValue) → ((x : LinkValue) → fixed (change x) ≡ fixed x) → (l : ℕ) (s : AreaValue) → IsAs s (link_changed change l s)
changed_as change same l s = by_link (slice_get s.links l) refl
  where
    by_link : (o : Option LinkValue) → slice_get s.links l ≡ o → IsAs s (some_changed o change l s)
    by_link None at = itself s
    by_link (Some a) at = record { own = refl; area = refl; links = set_fixed s.links l a (change a) at (same a) }

body_as : (body : BodyMeaning) (f : PacketSource) (s : AreaValue) (out out' : OutputsValue) (s' : AreaValue) → TakesBody body f s out out' s' → IsAs s s'
body_as (hello fields heard) f s out out' s' is = moved s _ s' is.state (worked_as (hello_part (context_of s) f fields (names heard s.router) s.next_dd) f.link s.sent s)
body_as (description fields headers) f s out out' s' is = moved s _ s' is.state (worked_as (description_part (context_of s) f fields headers s.database s.next_dd) f.link s.sent s)
body_as (request entries) f s out out' s' is = moved s _ s' is.state (worked_as (request_part (context_of s) f s.database entries s.next_dd) f.link _ s)
body_as (update lsas) f s out out' s' is = update_as s f lsas s out out' s' is (itself s)
body_as (acknowledgment headers) f s out out' s' is = moved s _ s' is.state (headers_as s f headers s (itself s))

-- each link becomes another of the same settings
mapped_as : (s t u : AreaValue) (sent : List LsaKey) (g : LinkValue → LinkValue) → ((x : LinkValue) → fixed (g x) ≡ fixed x) → u ≡ record t { links = map g t.links; sent = sent } → IsAs s t → IsAs s u
mapped_as s t u sent g same is as_was = moved s _ u is (record { own = as_was.own; area = as_was.area; links = mapped_fixed g same t.links ∙ as_was.links })

module _ (s : AreaValue) (out out' : OutputsValue) (s' : AreaValue) (is : TakesTick s out out' s') where
  pub aged_as : IsAs s is.aged
  aged_as = age_as s s out is.aged_out is.aged is.ages (itself s)

  pub timed_as : IsAs is.aged is.timed
  timed_as = mapped_as is.aged is.aged is.timed is.aged.sent link_timed (λ x. refl) is.timers (itself is.aged)

  pub helloed_as : IsAs is.timed is.helloed
  helloed_as = mapped_as is.timed is.timed is.helloed is.timed.sent hello_sent hello_fixed is.hellos.state (itself is.timed)

  pub acknowledged_as : IsAs is.helloed is.acknowledged
  acknowledged_as = mapped_as is.helloed is.helloed is.acknowledged is.helloed.sent undelayed_link (λ x. refl) is.acknowledgements.state (itself is.helloed)

tick_as : (s : AreaValue) (out out' : OutputsValue) (s' : AreaValue) → TakesTick s out out' s' → IsAs s s'
tick_as s out out' s' is =
    let timed = joined s is.aged is.timed (aged_as s out out' s' is) (timed_as s out out' s' is) in
    let helloed = joined s is.timed is.helloed timed (helloed_as s out out' s' is) in
    let acknowledged = joined s is.helloed is.acknowledged helloed (acknowledged_as s out out' s' is) in
    mapped_as s is.acknowledged s' _ (link_repeated (context_of is.acknowledged) is.acknowledged.database) (λ x. refl) is.repeats.state acknowledged

datagram_as : (link : ℕ) (source : Addr) (o : Option Meaning) (s : AreaValue) (out out' : OutputsValue) (s' : AreaValue) → TakesDatagram link source o s out out' s' → IsAs s s'
datagram_as link source None s out out' s' is = absurd is
datagram_as link source (Some m) s out out' s' is = body_as m.body (source_of link source m) s out out' s' is

pub event_as : (e : Event) (s : AreaValue) (out out' : OutputsValue) (s' : AreaValue) → TakesEvent e s out out' s' → IsAs s s'
event_as (Datagram link source destination bytes) s out out' s' is = datagram_as link source (packet_of bytes) s out out' s' is
event_as Tick s out out' s' is = tick_as s out out' s' is
event_as (LinkUp link) s out out' s' is = moved s _ s' is.state (changed_as link_up up_fixed link s)
event_as (LinkDown link) s out out' s' is = moved s _ s' is.state (changed_as link_down down_fixed link s)

elects_at_as : (l : ℕ) (s : AreaValue) (out : OutputsValue) (s' : AreaValue) (out' : OutputsValue) → ElectsAt l s out out' s' → IsAs s s'
elects_at_as l s out s' out' is = by_link (slice_get s.links l) refl is
  where
    by_link : (o : Option LinkValue) → slice_get s.links l ≡ o → ElectsThere o l s out s' out' → IsAs s s'
    by_link None at is = moved s s s' is.0 (itself s)
    by_link (Some a) at (b, next, sent, elects, state, outputs) =
        moved s _ s' state (record { own = refl; area = refl; links = set_fixed s.links l a b at (elected_fixed a.elects (context_of s) s.next_dd a b next sent elects) })

pub elects_all_as : (l : ℕ) (s : AreaValue) (out : OutputsValue) (s' : AreaValue) (out' : OutputsValue) → ElectsFrom l s out out' s' → IsAs s s'
elects_all_as zero s out s' out' is = moved s s s' is.0 (itself s)
elects_all_as (suc l) s out s' out' (mid, mid_out, first, last) = joined s mid s' (elects_all_as l s out mid mid_out first) (elects_at_as l mid mid_out s' out' last)

ends_as : (s : AreaValue) (out out' : OutputsValue) (s' : AreaValue) → EndsStep s out out' s' → IsAs s s'
ends_as s out out' s' is =
    let elected = elects_all_as (length s.links) s out is.elected is.elected_out is.elects in
    let issued = own_as s is.elected is.elected_out is.issued_out is.issued is.own elected in
    removes_as s is.issued is.issued_out out' s' is.removes issued

takes_as : (e : Event) (s : AreaValue) (out : OutputsValue) (s' : AreaValue) → Takes e s out s' → IsAs s s'
takes_as e s out s' is = joined s is.mid s' (event_as e s no_outputs is.mid_out is.mid is.event) (ends_as is.mid is.mid_out out s' is.end)

pub step_as : (e : Event) (s : AreaValue) (d : Option Dropped) (out : OutputsValue) (s' : AreaValue) → StepsArea e s d out s' → IsAs s s'
step_as e s None out s' is = takes_as e s out s' (is.takes refl)
step_as e s (Some d) out s' is = moved s s s' (is.unchanged (λ none. none-some d (sym none))) (itself s)
