-- What an event comes to at a slot.
use Rattle.std.proofs.Common.{Bool, ◌≡◌, ◌≢◌, ◌<◌, ◌≤◌, ◌⊎◌, inl, inr, ℕ, ℤ, List, Option, None, Some, length, refl, sym, ap, subst, ◌∙◌, cond, is_some, true, false, nat_lt, IfSome, Result, Ok, Err, if◌then◌else◌, vec_len, slice_get, get_or, option_and_then, option_map, arith}
use Rattle.std.proofs.lemmas.Bool.Decides.{Decides-int_eq}
use Rattle.std.proofs.lemmas.Option.{get_or_from_slice_get, slice_get_cases}
use Rattle.std.specs.Ordering.{int_eq}
use Rattle.ospf_config.specs.declared.config.Config.{Config}
use Rattle.ospf_base.specs.declared.ids.RouterId.{RouterId}
use Rattle.ospf_flood.specs.Rules.{max_sequence_number}
use Rattle.ospf_world.specs.World as world
use Rattle.ospf_world.specs.World.{Running}
use Rattle.ospf_base.specs.declared.event.event.WorldEvent.{WorldEvent}
use Rattle.ospf_base.specs.declared.event.event.WorldEvent.TheVariants.{Start, Stop, Deliver}
use Rattle.ospf_base.specs.declared.event.event.WorldFault.{WorldFault}
use Rattle.ospf_base.specs.declared.event.event.WorldFault.TheVariants as fault
use Rattle.ospf_world.specs.declared.logs.Datagram.{Datagram}
use Rattle.ospf_world.specs.declared.logs.Issued.{Issued}
use Rattle.ospf_router.specs.AreaStep.Step.{Event}
use Rattle.ospf_world.specs.Logs.{LogsValue}
use Rattle.ospf_world.specs.Running.{NeedsMemory, Begins, RunningValue, delivery, running_of, runs_in}
use Rattle.ospf_world.specs.Slots.{DeliversOn, Feeds, FeedsOn, IsSlot, SlotSteps, SlotTakes, SlotValue, StartsSlot, StopsSlot, fed_by, member_of, refused_by, slot_of, with_running}

-- what is at a place that is read, where there is something
pub at_place : {A : Type 0} (P : A → Type 0) (xs : List A) (k : ℕ) (d : A) → d ≡ get_or xs k d → P d → IfSome (slice_get xs k) P
at_place {A = A} P xs k d is p = go (slice_get xs k) refl
  where
    go : (o : Option A) → slice_get xs k ≡ o → IfSome o P
    go None at = tt
    go (Some g) at = subst P (is ∙ get_or_from_slice_get xs k g d at) p

-- ---- one call

-- memory ran out while the router of a slot was stepped, and it runs no more
pub stops_short : (e : Event) (config : Config) (o ended : Option RunningValue) (v : RunningValue) (logs logs' : LogsValue) (result : Result (Unit {0}) WorldFault) →
    o ≡ Some v → IsSlot o → NeedsMemory e v → logs' ≡ logs → ended ≡ None → result ≡ Err (fault.Memory true) → Feeds e (slot_of config o) logs result (slot_of config ended) logs'
stops_short e config o ended v logs logs' result is slot needs same none err =
    let (area, lives) = subst IsSlot is slot in
    Feeds.MemoryStops (runs_in v area) (ap (option_and_then running_of) is ∙ ap (option_map (runs_in v)) lives) (needs area lives) err (ap (slot_of config) none) same

-- with a datagram that may have been sent
pub stops_short_with : (l : ℕ) (sent : Option Datagram) (config : Config) (o ended : Option RunningValue) (v : RunningValue) (logs logs' : LogsValue) (result : Result (Unit {0}) WorldFault) →
    o ≡ Some v → IsSlot o → IfSome sent (λ g. NeedsMemory (delivery l g) v) → logs' ≡ logs → ended ≡ None → result ≡ Err (fault.Memory true) → IfSome sent (λ g. Feeds (delivery l g) (slot_of config o) logs result (slot_of config ended) logs')
stops_short_with l None config o ended v logs logs' result is slot needs same none err = tt
stops_short_with l (Some g) config o ended v logs logs' result is slot needs same none err = stops_short (delivery l g) config o ended v logs logs' result is slot needs same none err

-- the datagram of a place was sent
pub delivers : (l place : ℕ) (s after : SlotValue) (logs logs' : LogsValue) (result : Result (Unit {0}) WorldFault) → nat_lt l (vec_len s.config.interfaces) ≡ true → place < length logs.datagrams →
    IfSome (slice_get logs.datagrams place) (λ g. Feeds (delivery l g) s logs result after logs') → DeliversOn l (slice_get logs.datagrams place) s logs result after logs'
delivers l place s after logs logs' result link within fed = by (slice_get_cases logs.datagrams place).1
  where
    by : ((x : Datagram) × (place < length logs.datagrams) × (slice_get logs.datagrams place ≡ Some x) × (get_or logs.datagrams place x ≡ x)) ⊎ ((length logs.datagrams ≤ place) × (slice_get logs.datagrams place ≡ None)) → DeliversOn l (slice_get logs.datagrams place) s logs result after logs'
    by (inl (g, lt, at, _)) = DeliversOn.Delivers link g at (subst (λ o. IfSome o (λ g. Feeds (delivery l g) s logs result after logs')) at fed)
    by (inr (le, _)) = absurd (omega (arith, within, le))

running_is : (o : Option Running) → is_some o ≡ true → (x : Running) × (o ≡ Some x)
running_is None is = absurd (cc is)
running_is (Some x) is = (x, refl)

stopped_is : (o : Option Running) → is_some o ≡ false → o ≡ None
stopped_is None is = refl
stopped_is (Some x) is = absurd (cc is)

not_equal : (x y : ℤ) → x ≢ y → int_eq x y ≡ false
not_equal x y apart = go (int_eq x y) refl
  where
    go : (b : Bool) → int_eq x y ≡ b → b ≡ false
    go false is = refl
    go true is = absurd (apart ((Decides-int_eq x y).0 is))

-- a router that runs is not started
pub runs_already : (log : List Issued) (dd_start : ℕ) (floor : ℤ) (s : SlotValue) → is_some s.running ≡ true → StartsSlot log dd_start floor s (Err fault.Running) s
runs_already log dd_start floor s is = let (x, runs) = running_is s.running is in StartsSlot.IsRunning x runs refl refl

-- one that does not run starts above a floor
pub starts : (log : List Issued) (dd_start issued : ℕ) (floor : ℤ) (config : Config) (o : Option RunningValue) (v : RunningValue) → issued ≡ length log → is_some (slot_of config o).running ≡ false → floor ≢ max_sequence_number → Begins config dd_start issued floor v →
    StartsSlot log dd_start floor (slot_of config o) (Ok tt) (slot_of config (Some v))
starts log dd_start issued floor config o v is none above b =
    StartsSlot.Begins (stopped_is _ none) (not_equal floor max_sequence_number above) (runs_in v b.area) refl
    (ap (λ x. with_running (slot_of config o) x v.drops) (ap (option_map (runs_in v)) b.runs) ∙ ap (with_running (slot_of config o) (Some (runs_in v b.area))) b.drops) (b.started log (sym is))

-- one that runs stops
pub stops : (config : Config) (o : Option RunningValue) → is_some (slot_of config o).running ≡ true → StopsSlot (slot_of config o) (Ok tt) (slot_of config None)
stops config o is = let (x, runs) = running_is _ is in StopsSlot.Ends x runs refl refl

-- ---- an event

abbrev unless_stopped : Option Running → Option WorldFault
unless_stopped o = if is_some o then None else Some fault.NotRunning

abbrev unless_running : ℤ → Option Running → Option WorldFault
unless_running floor o = if is_some o then Some fault.Running else if int_eq floor max_sequence_number then Some fault.Floor else None

-- what an event that is refused only by a router that does not run comes to
pub steps_fed : (event : WorldEvent) (e : Event) (s after : SlotValue) (logs logs' : LogsValue) (result : Result (Unit {0}) WorldFault) →
    refused_by logs.datagrams event (member_of s) ≡ world.unless_stopped (member_of s) → fed_by logs.datagrams event ≡ Some e → Feeds e s logs result after logs' → SlotSteps event s logs result after logs'
steps_fed event e s after logs logs' result refused fed (Feeds.NotRunning none is same same_logs) = SlotSteps.Refused fault.NotRunning (refused ∙ ap unless_stopped none) is same same_logs
steps_fed event e s after logs logs' result refused fed (Feeds.Goes ok goes) = SlotSteps.Taken (refused ∙ ap unless_stopped goes.was) (SlotTakes.Stepped e fed ok goes)
steps_fed event e s after logs logs' result refused fed (Feeds.MemoryStops x was needs err is same) = SlotSteps.Taken (refused ∙ ap unless_stopped was) (SlotTakes.MemoryStops x e was fed needs err is same)

-- memory is not wanting before it is begun
pub begins_a_tick : (e : Event) (s after : SlotValue) (logs logs' : LogsValue) (result : Result (Unit {0}) WorldFault) → Feeds e s logs result after logs' → result ≡ Err (fault.Memory false) → ⊥
begins_a_tick e s after logs logs' result (Feeds.NotRunning none is same same_logs) wants = let h = sym is ∙ wants in cc
begins_a_tick e s after logs logs' result (Feeds.Goes ok goes) wants = let h = sym ok ∙ wants in cc
begins_a_tick e s after logs logs' result (Feeds.MemoryStops x was needs err is same) wants = let h = sym err ∙ wants in cc

-- one that is refused where there is no such link as well
pub steps_fed_on : (event : WorldEvent) (l : ℕ) (e : Event) (s after : SlotValue) (logs logs' : LogsValue) (result : Result (Unit {0}) WorldFault) →
    refused_by logs.datagrams event (member_of s) ≡ world.fault_on_link l (member_of s) → fed_by logs.datagrams event ≡ Some e → FeedsOn l e s logs result after logs' → SlotSteps event s logs result after logs'
steps_fed_on event l e s after logs logs' result refused fed (FeedsOn.NoLink none is same same_logs) =
    SlotSteps.Refused fault.NoLink (refused ∙ ap (λ (b : Bool). cond b (unless_stopped s.running) (Some fault.NoLink)) none) is same same_logs
steps_fed_on event l e s after logs logs' result refused fed (FeedsOn.OnLink has by) =
    steps_fed event e s after logs logs' result (refused ∙ ap (λ (b : Bool). cond b (unless_stopped s.running) (Some fault.NoLink)) has) fed by

pub steps_delivered : (r : RouterId) (place l : ℕ) (s after : SlotValue) (logs logs' : LogsValue) (result : Result (Unit {0}) WorldFault) →
    DeliversOn l (slice_get logs.datagrams place) s logs result after logs' → SlotSteps (Deliver place r l) s logs result after logs'
steps_delivered r place l s after logs logs' result (DeliversOn.NoLink none is same same_logs) =
    SlotSteps.Refused fault.NoLink (ap (λ (b : Bool). cond b (world.with_datagram (slice_get logs.datagrams place) (member_of s)) (Some fault.NoLink)) none) is same same_logs
steps_delivered r place l s after logs logs' result (DeliversOn.NoDatagram has none is same same_logs) =
    SlotSteps.Refused fault.NoDatagram (ap (λ (b : Bool). cond b (world.with_datagram (slice_get logs.datagrams place) (member_of s)) (Some fault.NoLink)) has ∙ ap (λ o. world.with_datagram o (member_of s)) none) is same same_logs
steps_delivered r place l s after logs logs' result (DeliversOn.Delivers has g at by) =
    steps_fed (Deliver place r l) (delivery l g) s after logs logs' result (ap (λ (b : Bool). cond b (world.with_datagram (slice_get logs.datagrams place) (member_of s)) (Some fault.NoLink)) has ∙ ap (λ o. world.with_datagram o (member_of s)) at) (ap (option_map (delivery l)) at) by

pub steps_started : (r : RouterId) (dd : ℕ) (floor : ℤ) (s after : SlotValue) (logs : LogsValue) (result : Result (Unit {0}) WorldFault) → StartsSlot logs.issued dd floor s result after → SlotSteps (Start r dd floor) s logs result after logs
steps_started r dd floor s after logs result (StartsSlot.IsRunning x runs is same) = SlotSteps.Refused fault.Running (ap (unless_running floor) runs) is same refl
steps_started r dd floor s after logs result (StartsSlot.AtFloor none at is same) = SlotSteps.Refused fault.Floor (ap (unless_running floor) none ∙ ap (λ (z : ℤ). cond (int_eq z max_sequence_number) (Some fault.Floor) None) at) is same refl
steps_started r dd floor s after logs result (StartsSlot.NotDone none above is same) = SlotSteps.Taken (ap (unless_running floor) none ∙ ap (λ (b : Bool). cond b (Some fault.Floor) None) above) (SlotTakes.NotDone tt is same refl)
steps_started r dd floor s after logs result (StartsSlot.Begins none above x ok is started) = SlotSteps.Taken (ap (unless_running floor) none ∙ ap (λ (b : Bool). cond b (Some fault.Floor) None) above) (SlotTakes.Starts r dd floor x refl ok none is started refl)

pub steps_stopped : (r : RouterId) (s after : SlotValue) (logs : LogsValue) (result : Result (Unit {0}) WorldFault) → StopsSlot s result after → SlotSteps (Stop r) s logs result after logs
steps_stopped r s after logs result (StopsSlot.IsStopped none is same) = SlotSteps.Refused fault.NotRunning (ap unless_stopped none) is same refl
steps_stopped r s after logs result (StopsSlot.Ends x runs ok is) = SlotSteps.Taken (ap unless_stopped runs) (SlotTakes.Stops r refl ok is refl)
