-- What an event comes to at a slot, it comes to in the world.
use Rattle.std.proofs.Common.{◌≡◌, ◌++◌, ℕ, List, [], ◌∷◌, Option, None, Some, map, find, refl, sym, ap, subst, ◌∙◌, slice_get, set, slice_set, option_and_then, option_map, length, Result, Ok, Err, eqb-true, ◌⊎◌, inl, inr, ◌<◌, ◌≤◌, get_or, arith, is_some}
use Rattle.std.proofs.lemmas.List.{append-nil}
use Rattle.std.proofs.lemmas.Option.{slice_get_cases}
use Rattle.ospf_base.specs.declared.ids.RouterId.{RouterId}
use Rattle.ospf_area.specs.Outputs.{OutputsValue}
use Rattle.ospf_router.specs.AreaStep.Step.{Event}
use Rattle.ospf_router.specs.declared.step.counts.DropCounts.{DropCounts}
use Rattle.ospf_world.specs.World.{RouterBecomes, Comes, LogsGrow, Running, SameLogs, World, member, of_member, refusal, router_at, stepped_by, IsRunningStarted}
use Rattle.ospf_base.specs.declared.event.event.WorldEvent.{WorldEvent}
use Rattle.ospf_base.specs.declared.event.event.WorldEvent.TheVariants.{Start, Stop, Tick, LinkUp, LinkDown, Deliver}
use Rattle.ospf_base.specs.declared.event.event.WorldFault.{WorldFault}
use Rattle.ospf_base.specs.declared.event.event.WorldFault.TheVariants as fault
use Rattle.ospf_world.specs.declared.logs.Datagram.{Datagram}
use Rattle.ospf_world.specs.Logs.{LogsTake, LogsValue}
use Rattle.ospf_world.specs.Running.{delivery}
use Rattle.ospf_world.specs.Slots.{SlotGoesOn, SlotSteps, SlotTakes, SlotValue, fed_by, member_of, refused_by, with_running}
use Rattle.ospf_base.specs.Events.Events.{router_in}
use Rattle.ospf_router.specs.Steps.{is_dropped}
use Rattle.ospf_world.specs.Does.{Does}
use Rattle.ospf_world.specs.Ticks.{ticked_by}
use Rattle.ospf_world.specs.declared.ticks.Ticked.{Ticked}
use Rattle.ospf_world.specs.Worlds.{SameSettings, WorldValue, config_of, configs_of, is_slot_of, place_of, world_of}
use Rattle.ospf_world.proofs.PlaceFacts.{IsAt, at_within, not_placed, place_set, placed, set_same, slot_at}
use Rattle.ospf_world.proofs.WorldFacts.{becomes, configs_set, id_is, member-is, router_at-is}

-- the configuration of a slot never changes
pub config_kept : (event : WorldEvent) (s s' : SlotValue) (logs logs' : LogsValue) (result : Result (Unit {0}) WorldFault) → SlotSteps event s logs result s' logs' → s'.config ≡ s.config
config_kept event s s' logs logs' result (SlotSteps.Refused f refused is after same) = ap config_of after
config_kept event s s' logs logs' result (SlotSteps.Taken none (SlotTakes.NotDone wants err after same)) = ap config_of after
config_kept event s s' logs logs' result (SlotSteps.Taken none (SlotTakes.MemoryStops x e runs fed needs err after same)) = ap config_of after
config_kept event s s' logs logs' result (SlotSteps.Taken none (SlotTakes.Starts r dd floor x is ok stopped after started same)) = ap config_of after
config_kept event s s' logs logs' result (SlotSteps.Taken none (SlotTakes.Stops r is ok after same)) = ap config_of after
config_kept event s s' logs logs' result (SlotSteps.Taken none (SlotTakes.Stepped e fed ok goes)) = ap config_of goes.is

-- an event is refused by its router, if there is one
refusal-is : (w : World) (event : WorldEvent) → refusal w event ≡ of_member (refused_by w.datagrams event) (member w (router_in event))
refusal-is w (Start r dd floor) = refl
refusal-is w (Stop r) = refl
refusal-is w (Tick r) = refl
refusal-is w (LinkUp r l) = refl
refusal-is w (LinkDown r l) = refl
refusal-is w (Deliver d r l) = refl

stepped : (w : World) (event : WorldEvent) → option_map {U = RouterId × Event} (λ (e : Event). (router_in event, e)) (fed_by w.datagrams event) ≡ stepped_by w event
stepped w (Start r dd floor) = refl
stepped w (Stop r) = refl
stepped w (Tick r) = refl
stepped w (LinkUp r l) = refl
stepped w (LinkDown r l) = refl
stepped w (Deliver d r l) = go (slice_get w.datagrams d)
  where
    go : (o : Option Datagram) → option_map {U = RouterId × Event} (λ (e : Event). (r, e)) (option_map (delivery l) o) ≡ option_map {U = RouterId × Event} (λ (g : Datagram). (r, delivery l g)) o
    go None = refl
    go (Some g) = refl

steps_with : (w : World) (event : WorldEvent) (e : Event) → fed_by w.datagrams event ≡ Some e → stepped_by w event ≡ Some (router_in event, e)
steps_with w event e fed = sym (stepped w event) ∙ ap (option_map {U = RouterId × Event} (λ (e : Event). (router_in event, e))) fed

same_value : (w w' : WorldValue) → w'.slots ≡ w.slots → w'.logs ≡ w.logs → world_of w' ≡ world_of w
same_value w w' slots logs = λ i. record { routers = map member_of (slots i); datagrams = (logs i).datagrams; issued = (logs i).issued; held = (logs i).held }

same_logs : (w w' : WorldValue) → w'.logs ≡ w.logs → SameLogs (world_of w) (world_of w')
same_logs w w' same = record { datagrams = ap (λ (l : LogsValue). l.datagrams) same; issued = ap (λ (l : LogsValue). l.issued) same; held = ap (λ (l : LogsValue). l.held) same }

grow : (w w' : WorldValue) (r : RouterId) (x : Running) (out : OutputsValue) → LogsTake w.logs w'.logs r x.first x.later out → LogsGrow (world_of w) (world_of w') r x out
grow w w' r x out t = record {
  datagrams = t.datagrams;
  issued = t.issued;
  held = t.held;
}

-- what an event comes to at its router's slot, it comes to in the world
comes : (event : WorldEvent) (w w' : WorldValue) (k : ℕ) (s s' : SlotValue) (result : Result (Unit {0}) WorldFault) →
    IsAt w.slots (router_in event).0 k → slice_get w.slots k ≡ Some s → w'.slots ≡ set w.slots k s' → SlotSteps event s w.logs result s' w'.logs → Comes is_dropped event (world_of w) result (world_of w')
comes event w w' k s s' result at get slots steps = by steps
  where
    here : find (is_slot_of (router_in event).0) w.slots ≡ Some s
    here = (slot_at w.slots (router_in event).0 k s at get).0

    id : s.config.router_id ≡ router_in event
    id = id_is s.config.router_id (router_in event) (eqb-true s.config.router_id.0 (router_in event).0 (slot_at w.slots (router_in event).0 k s at get).1)

    refused : refusal (world_of w) event ≡ refused_by w.logs.datagrams event (member_of s)
    refused = refusal-is (world_of w) event ∙ ap (of_member (refused_by w.logs.datagrams event)) (member-is w (router_in event) ∙ ap (option_map member_of) here)

    was : router_at (world_of w) (router_in event) ≡ s.running
    was = router_at-is w (router_in event) ∙ ap (option_and_then (λ (s : SlotValue). s.running)) here

    unchanged : s' ≡ s → w'.logs ≡ w.logs → world_of w' ≡ world_of w
    unchanged same logs = same_value w w' (slots ∙ (ap (set w.slots k) same ∙ set_same w.slots k s get)) logs

    now : (x : Option Running) (drops : List DropCounts) → s' ≡ with_running s x drops → RouterBecomes (world_of w) (world_of w') (router_in event) x
    now x drops after = subst (λ x. RouterBecomes (world_of w) (world_of w') (router_in event) x) (ap (λ (s : SlotValue). s.running) after) (becomes w w' (router_in event) k s s' at get (config_kept event s s' w.logs w'.logs result steps) slots)

    goes : (e : Event) → refusal (world_of w) event ≡ None → fed_by w.logs.datagrams event ≡ Some e → result ≡ Ok tt → SlotGoesOn e s w.logs s' w'.logs → Comes is_dropped event (world_of w) result (world_of w')
    goes e none fed ok g = Comes.Stepped none ok (router_in event) e g.x g.x' g.out (steps_with (world_of w) event e fed) (record {
      was = was ∙ g.was;
      changes = now (Some g.x') _ g.is;
      accounts = g.lawful.accounts;
      table = g.table;
      logs = grow w w' (router_in event) g.x g.out (subst (λ r. LogsTake w.logs w'.logs r g.x.first g.x.later g.out) id g.takes);
      runs = g.runs;
    })

    by : SlotSteps event s w.logs result s' w'.logs → Comes is_dropped event (world_of w) result (world_of w')
    by (SlotSteps.Refused f why is after same) = Comes.Refused f (refused ∙ why) is (unchanged after same)
    by (SlotSteps.Taken none (SlotTakes.NotDone wants err after same)) = Comes.NotDone (refused ∙ none) err wants (unchanged after same)
    by (SlotSteps.Taken none (SlotTakes.MemoryStops x e runs fed needs err after same)) = Comes.MemoryStops (refused ∙ none) err (router_in event) e x (steps_with (world_of w) event e fed) (was ∙ runs) (ap is_some needs) (now None _ after) (same_logs w w' same)
    by (SlotSteps.Taken none (SlotTakes.Starts r dd floor x is ok stopped after starts same)) = Comes.Starts (refused ∙ none) ok r dd floor x is (subst (λ r. router_at (world_of w) r ≡ None) (ap router_in is) (was ∙ stopped)) (subst (λ r. RouterBecomes (world_of w) (world_of w') r (Some x)) (ap router_in is) (now (Some x) _ after)) (subst (λ r. IsRunningStarted w.logs.issued r floor x) (id ∙ ap router_in is) starts.begins) (same_logs w w' same)
    by (SlotSteps.Taken none (SlotTakes.Stops r is ok after same)) = Comes.Stops (refused ∙ none) ok r is (subst (λ r. RouterBecomes (world_of w) (world_of w') r None) (ap router_in is) (now None _ after)) (same_logs w w' same)
    by (SlotSteps.Taken none (SlotTakes.Stepped e fed ok g)) = goes e (refused ∙ none) fed ok g

-- what an event does at a router that the world has, and where the routers stand then and how they are configured
pub steps_in : (event : WorldEvent) (w w' : WorldValue) (k : ℕ) (result : Result (Unit {0}) WorldFault) → place_of w.slots (router_in event).0 ≡ Some k → w'.offered ≡ w.offered → w'.ticks ≡ w.ticks ++ ticked_by event result (length w.logs.datagrams) →
    ((before : SlotValue) → slice_get w.slots k ≡ Some before → (after : SlotValue) × (w'.slots ≡ slice_set w.slots k after) × SlotSteps event before w.logs result after w'.logs) →
    Does event w result w' × ((r : ℕ) → place_of w'.slots r ≡ place_of w.slots r) × (map config_of w'.slots ≡ map config_of w.slots)
steps_in event w w' k result placed_at offered ticks steps = by (slice_get_cases w.slots k).1
  where
    within : k < length w.slots
    within = at_within w.slots (router_in event).0 k (placed w.slots (router_in event).0 k placed_at)

    with_slot : (s : SlotValue) → slice_get w.slots k ≡ Some s → ((s' : SlotValue) × (w'.slots ≡ slice_set w.slots k s') × SlotSteps event s w.logs result s' w'.logs) → Does event w result w' × ((r : ℕ) → place_of w'.slots r ≡ place_of w.slots r) × (map config_of w'.slots ≡ map config_of w.slots)
    with_slot s get (s', slots, step) =
        let kept = config_kept event s s' w.logs w'.logs result step in
        (Does.AtRouter s s' (record { place = k; stands = placed_at; was = get; is = slots }) step ticks offered, (λ r. ap (λ slots. place_of slots r) slots ∙ place_set w.slots k s s' get kept r 0), ap (map config_of) slots ∙ configs_set w.slots k s s' get kept)

    by : ((s : SlotValue) × (k < length w.slots) × (slice_get w.slots k ≡ Some s) × (get_or w.slots k s ≡ s)) ⊎ ((length w.slots ≤ k) × (slice_get w.slots k ≡ None)) → Does event w result w' × ((r : ℕ) → place_of w'.slots r ≡ place_of w.slots r) × (map config_of w'.slots ≡ map config_of w.slots)
    by (inl (s, lt, get, _)) = with_slot s get (steps s get)
    by (inr (le, _)) = let lt = within in absurd (omega (arith, lt, le))

-- at one that it does not have
no_router : (event : WorldEvent) (w : WorldValue) → place_of w.slots (router_in event).0 ≡ None → Comes is_dropped event (world_of w) (Err fault.NoRouter) (world_of w)
no_router event w none = Comes.Refused fault.NoRouter (refusal-is (world_of w) event ∙ ap (of_member (refused_by w.logs.datagrams event)) (member-is w (router_in event) ∙ ap (option_map member_of) (not_placed w.slots (router_in event).0 0 none))) refl refl

-- ---- what follows from what an event does

-- what it comes to, as the laws of worlds have it
pub does_comes : (event : WorldEvent) (w w' : WorldValue) (result : Result (Unit {0}) WorldFault) → Does event w result w' → Comes is_dropped event (world_of w) result (world_of w')
does_comes event w w' result (Does.NoRouter none is same) =
    subst (λ (v : WorldValue). Comes is_dropped event (world_of w) result (world_of v)) (sym same)
    (subst (λ (r : Result (Unit {0}) WorldFault). Comes is_dropped event (world_of w) r (world_of w)) (sym is) (no_router event w none))
does_comes event w w' result (Does.AtRouter s s' changes steps ticks offered) =
    comes event w w' changes.place s s' result (placed w.slots (router_in event).0 changes.place changes.stands) changes.was changes.is steps

pub does_same : (event : WorldEvent) (w w' : WorldValue) (result : Result (Unit {0}) WorldFault) → Does event w result w' → SameSettings w w'
does_same event w w' result (Does.NoRouter none is same) = record { configs = ap configs_of same; offered = ap (λ (v : WorldValue). v.offered) same }
does_same event w w' result (Does.AtRouter s s' changes steps ticks offered) = record {
  configs = ap (map config_of) changes.is ∙ configs_set w.slots changes.place s s' changes.was (config_kept event s s' w.logs w'.logs result steps);
  offered = offered;
}

none_ticked : (event : WorldEvent) (f : WorldFault) (sent : ℕ) → ticked_by event (Err f) sent ≡ []
none_ticked (Start r dd floor) f sent = refl
none_ticked (Stop r) f sent = refl
none_ticked (Tick r) f sent = refl
none_ticked (LinkUp r l) f sent = refl
none_ticked (LinkDown r l) f sent = refl
none_ticked (Deliver d r l) f sent = refl

-- what is refused logs nothing
pub none_more : (event : WorldEvent) (f : WorldFault) (sent : ℕ) (ticks : List Ticked) → ticks ≡ ticks ++ ticked_by event (Err f) sent
none_more event f sent ticks = sym (ap (λ (ts : List Ticked). ticks ++ ts) (none_ticked event f sent) ∙ append-nil ticks)

pub does_tick : (event : WorldEvent) (w w' : WorldValue) (result : Result (Unit {0}) WorldFault) → Does event w result w' → w'.ticks ≡ w.ticks ++ ticked_by event result (length w.logs.datagrams)
does_tick event w w' result (Does.NoRouter none is same) =
    ap (λ (v : WorldValue). v.ticks) same ∙ none_more event fault.NoRouter (length w.logs.datagrams) w.ticks
    ∙ ap (λ (r : Result (Unit {0}) WorldFault). w.ticks ++ ticked_by event r (length w.logs.datagrams)) (sym is)
does_tick event w w' result (Does.AtRouter s s' changes steps ticks offered) = ticks
