-- A network of one router, event by event.
use Rattle.std.proofs.Common.{◌++◌, List, [], ◌∷◌, Option, None, Some, Ok, map, refl, sym, subst, lit<}
use Rattle.std.proofs.lemmas.Option.{same_Some}
use Rattle.ospf_area.specs.Outputs.{OutputsValue}
use Rattle.ospf_area.specs.Sending.{datagrams}
use Rattle.ospf_area.specs.State.{AreaValue}
use Rattle.ospf_base.specs.Addresses.{all_spf_routers}
use Rattle.ospf_base.specs.Keys.{same_key}
use Rattle.ospf_graph.specs.EdgeLists.Listed.{advertisements_of}
use Rattle.ospf_world.specs.Runs.{GoesOver, RunsOn}
use Rattle.ospf_world.specs.World.{HasItsTable, Running, router_at}
use Rattle.ospf_world.specs.Logs.{run_of}
use Rattle.ospf_world.specs.declared.logs.Datagram.{Datagram}
use Rattle.ospf_world.specs.declared.logs.Run.{Run}
use Rattle.ospf_base.specs.declared.event.event.WorldEvent.TheVariants.{Start, Tick, LinkUp}
use Rattle.ospf_neighbour.specs.Interface.Hello.{own_hello}
use Rattle.ospf_router.specs.AreaStep.Counts.{none_dropped_on}
use Rattle.ospf_router.specs.AreaStep.Step.{Event}
use Rattle.ospf_router.specs.declared.step.counts.DropCounts.{DropCounts}
use Rattle.ospf_adjacency.specs.LinkSteps.Parts.{link_up}
use Rattle.ospf_lsdb.specs.Database.{entry_from, key_in}
use Rattle.ospf_packet.proofs.RoundTrip.{read_again}
use Rattle.ospf_packet.specs.Meaning.{packet_bytes}
use Rattle.ospf_router.specs.Routers.{RouterValue}
use Rattle.ospf_router.specs.Starts.{IsStarted}
use Rattle.ospf_world.proofs.StartFacts.{begins}
use Rattle.ospf_world.specs.Logs.{LogsValue, held_by, holdings_by, issued_in, sent_as_datagram}
use Rattle.ospf_world.specs.Running.{StartsAs}
use Rattle.ospf_world.specs.Slots.{SlotGoesOn, SlotSteps, SlotTakes, SlotValue}
use Rattle.ospf_area.specs.Updates.Removal.{lowest_number}
use Rattle.ospf_world.specs.Does.{Does}
use Rattle.ospf_world.specs.Worlds.{WorldValue, new_world, no_logs}
use Rattle.ospf_world.specs.declared.ticks.Ticked.{Ticked}
use Rattle.ospf_world.proofs.Config.{config, it, its_address}
use Rattle.ospf_world.proofs.States.{begun, down_link, has_issued, header_fits, is_area, is_lsa, is_table, issuing_out, linked, linked_out, own_lsa}
use Rattle.ospf_world.proofs.Steps.{hello_fits, hello_said, issued_database, tick_lawful, tick_step, up_lawful, up_step}
use Rattle.ospf_world.specs.Works.{SomeRouterWorks}

-- ---- the networks

abbrev first_run : Run
first_run = record { name = 0; base = lowest_number }

abbrev runs_at : AreaValue → Running
runs_at s = record { state = s; table = []; first = first_run; later = [] }

abbrev drops_of : Option Running → List DropCounts
drops_of None = []
drops_of (Some x) = none_dropped_on config.interfaces.items

abbrev slot : Option Running → SlotValue
slot o = record { config = config; running = o; drops = drops_of o }

abbrev logs_after : LogsValue → OutputsValue → LogsValue
logs_after logs out = record {
  datagrams = logs.datagrams ++ map (sent_as_datagram it) out.sent;
  issued = logs.issued ++ map (issued_in first_run []) out.issued;
  held = logs.held ++ (map (held_by it) out.taken ++ map (holdings_by it) out.issued);
}

abbrev network : Option Running → LogsValue → List Ticked → WorldValue
network o logs ticks = record { slots = slot o ∷ []; logs = logs; ticks = ticks; offered = 0 }

abbrev has_started : WorldValue
has_started = network (Some (runs_at begun)) no_logs []

abbrev issued_logs : LogsValue
issued_logs = logs_after no_logs issuing_out

abbrev one_tick : List Ticked
one_tick = record { router = it; sent = 0 } ∷ []

abbrev has_ticked : WorldValue
has_ticked = network (Some (runs_at has_issued)) issued_logs one_tick

abbrev all_logs : LogsValue
all_logs = logs_after issued_logs linked_out

abbrev works : WorldValue
works = network (Some (runs_at linked)) all_logs one_tick

-- ---- it starts

abbrev router_value : RouterValue
router_value = record { links = 1; floor = lowest_number; table = []; area = Some begun }

is_started : IsStarted config 1 lowest_number router_value
is_started = record { area = begun; runs = refl; is = is_area; table = refl; links = refl; floor_is = refl }

starts_as : StartsAs config 1 lowest_number [] (runs_at begun)
starts_as =
    let b = begins config 1 lowest_number 0 router_value (none_dropped_on config.interfaces.items) is_started refl in
    subst (λ (s : AreaValue). StartsAs config 1 lowest_number [] (runs_at s)) (sym (same_Some begun b.area b.runs)) (b.started [] refl)

does_start : Does (Start it 1 lowest_number) (new_world (config ∷ [])) (Ok tt) has_started
does_start = Does.AtRouter (slot None) (slot (Some (runs_at begun))) (record { place = 0; stands = refl; was = refl; is = refl })
    (SlotSteps.Taken refl (SlotTakes.Starts it 1 lowest_number (runs_at begun) refl refl refl refl starts_as refl)) refl refl

-- ---- a second passes

issued_table : HasItsTable (runs_at has_issued)
unfolding entry_from advertisements_of
issued_table = record {
  is_database = issued_database;
  is_listing = record { rising = (tt, tt); listed = ((is_lsa, header_fits, lit< tt), tt) };
  is_table = is_table;
}

ticks_on : SlotGoesOn Event.Tick (slot (Some (runs_at begun))) no_logs (slot (Some (runs_at has_issued))) issued_logs
unfolding run_of
ticks_on = record {
  x = runs_at begun;
  x' = runs_at has_issued;
  out = issuing_out;
  was = refl;
  is = refl;
  dropped = None;
  steps = tick_step;
  lawful = tick_lawful;
  table = issued_table;
  takes = record { datagrams = refl; issued = refl; held = refl };
  runs = record { first = refl; runs = λ key. refl };
}

does_tick : Does (Tick it) has_started (Ok tt) has_ticked
does_tick = Does.AtRouter (slot (Some (runs_at begun))) (slot (Some (runs_at has_issued))) (record { place = 0; stands = refl; was = refl; is = refl })
    (SlotSteps.Taken refl (SlotTakes.Stepped Event.Tick refl refl ticks_on)) refl refl

-- ---- its link goes up

linked_table : HasItsTable (runs_at linked)
unfolding entry_from advertisements_of
linked_table = record {
  is_database = issued_database;
  is_listing = record { rising = (tt, tt); listed = ((is_lsa, header_fits, lit< tt), tt) };
  is_table = is_table;
}

goes_up : SlotGoesOn (Event.LinkUp 0) (slot (Some (runs_at has_issued))) issued_logs (slot (Some (runs_at linked))) all_logs
unfolding run_of
goes_up = record {
  x = runs_at has_issued;
  x' = runs_at linked;
  out = linked_out;
  was = refl;
  is = refl;
  dropped = None;
  steps = up_step;
  lawful = up_lawful;
  table = linked_table;
  takes = record { datagrams = refl; issued = refl; held = refl };
  runs = record { first = refl; runs = λ key. refl };
}

does_go_up : Does (LinkUp it 0) has_ticked (Ok tt) works
does_go_up = Does.AtRouter (slot (Some (runs_at has_issued))) (slot (Some (runs_at linked))) (record { place = 0; stands = refl; was = refl; is = refl })
    (SlotSteps.Taken refl (SlotTakes.Stepped (Event.LinkUp 0) refl refl goes_up)) refl refl

-- ---- all of it

runs : RunsOn Does (Start it 1 lowest_number ∷ Tick it ∷ LinkUp it 0 ∷ []) (new_world (config ∷ [])) 0 works 0
runs = (has_started, 0, GoesOver.IsTaken does_start refl, (has_ticked, 0, GoesOver.IsTaken does_tick refl, (works, 0, GoesOver.IsTaken does_go_up refl, (refl, refl))))

abbrev greeting : Datagram
greeting = record {
  router = it;
  sent = record { link = 0; source = its_address; destination = all_spf_routers; bytes = packet_bytes hello_said; packet = hello_said };
}

pub some_router_works : SomeRouterWorks
unfolding router_at datagrams same_key key_in entry_from
some_router_works = record {
  config = config;
  dd_start = 1;
  floor = lowest_number;
  after = works;
  runs = runs;
  x = runs_at linked;
  at = refl;
  link = link_up down_link;
  has_link = refl;
  is_up = refl;
  entry = issued_in first_run [] own_lsa;
  has_issued = record { issued = (0, lit< tt, refl); is_lsa = is_lsa; own = refl; held = refl };
  datagram = greeting;
  fields = own_hello (link_up down_link).iface;
  has_greeted = record { sent = (0, lit< tt, refl); by = refl; reads = read_again hello_said hello_fits; says = refl };
}
