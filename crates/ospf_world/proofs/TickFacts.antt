-- The log of ticks, and sound acknowledgement from one moment to another.
use Rattle.std.proofs.Common.{Bool, ◌≡◌, ◌++◌, ℕ, List, [], ◌∷◌, None, Some, Result, Ok, true, false, is_some, length, refl, sym, ap, subst, ◌∙◌}
use Rattle.std.specs.Prelude.{if◌then◌else◌}
use Rattle.std.proofs.lemmas.List.{append-nil}
use Rattle.ospf_base.specs.declared.ids.RouterId.{RouterId}
use Rattle.ospf_world.specs.Headline.{IsReached}
use Rattle.ospf_world.specs.Sound.{IsSoundAcknowledgement}
use Rattle.ospf_world.specs.World.{Comes, Happens, World}
use Rattle.ospf_base.specs.declared.event.event.WorldEvent.{WorldEvent}
use Rattle.ospf_base.specs.declared.event.event.WorldEvent.TheVariants.{Start, Stop, Tick, LinkUp, LinkDown, Deliver}
use Rattle.ospf_base.specs.declared.event.event.WorldFault.{WorldFault}
use Rattle.ospf_base.specs.declared.event.event.WorldFault.TheVariants as fault
use Rattle.ospf_world.specs.declared.logs.Datagram.{Datagram}
use Rattle.ospf_world.specs.Logs.{LogsValue}
use Rattle.ospf_world.specs.Slots.{SlotSteps, SlotValue, member_of, refused_by}
use Rattle.ospf_router.specs.Steps.{is_dropped}
use Rattle.ospf_world.specs.Sounds.{IsSoundBetween}
use Rattle.ospf_world.specs.Ticks.{TicksBy, TicksOn, ticked_by, ticked_if}
use Rattle.ospf_world.specs.declared.ticks.Ticked.{Ticked}
use Rattle.ospf_world.proofs.RandomFacts.{LeadsOn, reached_on}

-- ---- one event

unticked : (event : WorldEvent) (s s' : SlotValue) (logs logs' : LogsValue) (result : Result (Unit {0}) WorldFault) (sent : ℕ) → SlotSteps event s logs result s' logs' →
    ((r : RouterId) → event ≡ Tick r → is_some s.running ≡ false) → ticked_by event result sent ≡ []
unticked (Start r dd floor) s s' logs logs' result sent steps stands = refl
unticked (Stop r) s s' logs logs' result sent steps stands = refl
unticked (LinkUp r l) s s' logs logs' result sent steps stands = refl
unticked (LinkDown r l) s s' logs logs' result sent steps stands = refl
unticked (Deliver d r l) s s' logs logs' result sent steps stands = refl
unticked (Tick r) s s' logs logs' result sent (SlotSteps.Refused f why is after same) stands = ap (λ (x : Result (Unit {0}) WorldFault). ticked_if x (record { router = r; sent = sent })) is
unticked (Tick r) s s' logs logs' result sent (SlotSteps.Taken none takes) stands =
    absurd (let h : Some fault.NotRunning ≡ None = subst (λ (b : Bool). (if b then None else Some fault.NotRunning) ≡ None) (stands r refl) none in cc)

-- what is no tick of a router that runs logs nothing
pub no_tick : (event : WorldEvent) (s s' : SlotValue) (logs logs' : LogsValue) (result : Result (Unit {0}) WorldFault) (sent : ℕ) (ticks : List Ticked) → SlotSteps event s logs result s' logs' →
    ((r : RouterId) → event ≡ Tick r → is_some s.running ≡ false) → ticks ≡ ticks ++ ticked_by event result sent
no_tick event s s' logs logs' result sent ticks steps stands = sym (ap (λ (ts : List Ticked). ticks ++ ts) (unticked event s s' logs logs' result sent steps stands) ∙ append-nil ticks)

-- a tick of a router that runs is not refused
pub tick_runs : (event : WorldEvent) (s : SlotValue) (sent : List Datagram) (r : RouterId) → event ≡ Tick r → is_some s.running ≡ true → refused_by sent event (member_of s) ≡ None
tick_runs event s sent r is runs =
    ap (λ (e : WorldEvent). refused_by sent e (member_of s)) is ∙ ap (λ (b : Bool). if b then None else Some fault.NotRunning) runs

-- and is logged, if it is taken
pub tick_taken : (event : WorldEvent) (tick : Ticked) (result : Result (Unit {0}) WorldFault) (sent : ℕ) (ticks : List Ticked) → event ≡ Tick tick.router → tick.sent ≡ sent → result ≡ Ok tt →
    ticks ++ tick ∷ [] ≡ ticks ++ ticked_by event result sent
tick_taken event tick result sent ticks is at ok =
    let made : ticked_by event result sent ≡ ticked_if (Ok tt) (record { router = tick.router; sent = sent }) =
    ap (λ (e : WorldEvent). ticked_by e result sent) is ∙ ap (λ (x : Result (Unit {0}) WorldFault). ticked_if x (record { router = tick.router; sent = sent })) ok in
    let one : ticked_if (Ok tt) (record { router = tick.router; sent = sent }) ≡ tick ∷ [] = λ i. ticked_if (Ok tt) (record { router = tick.router; sent = sym at i }) in
    ap (λ (ts : List Ticked). ticks ++ ts) (sym (made ∙ one))

-- what a list is after a push, where it was done
pub pushed : (after ticks : List Ticked) (tick : Ticked) (done : Bool) → after ≡ (if done then ticks ++ tick ∷ [] else ticks) → done ≡ true → after ≡ ticks ++ tick ∷ []
pushed after ticks tick done is so = is ∙ ap (λ (b : Bool). if b then ticks ++ tick ∷ [] else ticks) so

-- and where it was not
pub not_pushed : (after ticks : List Ticked) (tick : Ticked) (done : Bool) → after ≡ (if done then ticks ++ tick ∷ [] else ticks) → done ≡ false → after ≡ ticks
not_pushed after ticks tick done is so = is ∙ ap (λ (b : Bool). if b then ticks ++ tick ∷ [] else ticks) so

-- ---- one event after another

ticks_more : (events later : List WorldEvent) (w mid w' : World) (ts ms ts' : List Ticked) → TicksBy events w ts mid ms → TicksBy later mid ms w' ts' → TicksBy (events ++ later) w ts w' ts'
ticks_more [] later w mid w' ts ms ts' same rest = subst (λ (v : World). TicksBy later v ts w' ts') same.0 (subst (λ (us : List Ticked). TicksBy later mid us w' ts') same.1 rest)
ticks_more (event ∷ events) later w mid w' ts ms ts' first rest = (first.0, first.1, first.2, ticks_more events later first.0 mid w' (ts ++ ticked_by event first.1 (length w.datagrams)) ms ts' first.3 rest)

pub ticks_further : (w mid w' : World) (ts ms ts' : List Ticked) → TicksOn w ts mid ms → TicksOn mid ms w' ts' → TicksOn w ts w' ts'
ticks_further w mid w' ts ms ts' a b = (a.0 ++ b.0, ticks_more a.0 b.0 w mid w' ts ms ts' a.1 b.1)

pub ticks_nowhere : (w w' : World) (ts ts' : List Ticked) → w' ≡ w → ts' ≡ ts → TicksOn w ts w' ts'
ticks_nowhere w w' ts ts' same log = ([], (same, log))

pub ticks_once : (event : WorldEvent) (result : Result (Unit {0}) WorldFault) (w w' : World) (ts ts' : List Ticked) → Comes is_dropped event w result w' →
    ts' ≡ ts ++ ticked_by event result (length w.datagrams) → TicksOn w ts w' ts'
ticks_once event result w w' ts ts' comes log = (event ∷ [], (w', result, comes, (refl, log)))

-- ---- sound acknowledgement

-- the law of one event
abbrev pub SoundEach : Type 0
SoundEach = (event : WorldEvent) (before after : World) → IsReached is_dropped before → Happens is_dropped event before after → IsSoundAcknowledgement event before after

pub sound_between : SoundEach → (w w' : World) → IsReached is_dropped w → LeadsOn w w' → IsSoundBetween w w'
sound_between law w w' reached leads = record {
  leads = leads;
  each = λ earlier later event mid next before happens after. law event mid next (reached_on w mid reached (earlier, before)) happens;
}
