-- Events at many routers.
use Rattle.std.specs.Prelude.{◌≡◌, ◌≢◌, ◌∷◌, ℕ, Bool, true, false, List, [], Result, Ok, Err, flat_map, if◌then◌else◌, Some}
use Rattle.std.specs.List.{enumerate_from}
use Rattle.ospf_base.specs.declared.ids.RouterId.{RouterId}
use Rattle.ospf_config.specs.declared.address.InterfaceAddress.{InterfaceAddress}
use Rattle.ospf_config.specs.declared.config.Config.{Config}
use Rattle.ospf_config.specs.declared.interface.Interface.{Interface}
use Rattle.ospf_world.specs.Runs.{IsRun}
use Rattle.ospf_base.specs.declared.event.event.WorldEvent.{WorldEvent}
use Rattle.ospf_base.specs.declared.event.event.WorldEvent.TheVariants as event
use Rattle.ospf_base.specs.declared.event.event.WorldFault.{WorldFault}
use Rattle.ospf_base.specs.declared.event.event.WorldFault.TheVariants as fault
use Rattle.ospf_script.specs.Values.{no_floor}
use Rattle.ospf_script.specs.declared.command.Many.{Many}
use Rattle.ospf_script.specs.declared.command.Many.TheVariants as many
use Rattle.ospf_commands.specs.Deliveries.Losses.{is_network_of}
use Rattle.ospf_world.specs.Slots.{SlotValue}
use Rattle.ospf_world.specs.Does.{Does}
use Rattle.ospf_world.specs.Worlds.{WorldValue}

-- a link goes down, or comes up
abbrev pub link_event : Many → RouterId → ℕ → WorldEvent
link_event many.Down router link = event.LinkDown router link
link_event (many.Cut network) router link = event.LinkDown router link
link_event _ router link = event.LinkUp router link

-- the interface with this address is selected: any, or one to the network with the address
abbrev pub is_meant : Many → InterfaceAddress → Bool
is_meant (many.Cut network) address = is_network_of network (Some address)
is_meant (many.Mend network) address = is_network_of network (Some address)
is_meant _ address = true

-- the events on a link, with its number
abbrev pub events_on : Many → RouterId → ℕ × Interface → List WorldEvent
events_on what router link =
    if is_meant what link.1.address then link_event what router link.0 ∷ [] else []

-- the events at a router of this configuration: it starts, with 1 as its first DD sequence number
-- and no floor; or its links change
abbrev pub config_events : Many → Config → List WorldEvent
config_events many.Start config = event.Start config.router_id 1 no_floor ∷ []
config_events what config =
    flat_map (events_on what config.router_id) (enumerate_from 0 config.interfaces.items)

-- the events at the router of a slot
abbrev pub many_of : Many → SlotValue → List WorldEvent
many_of what s = config_events what s.config

-- the events at all routers, in the order of the configurations
abbrev pub many_events : Many → WorldValue → List WorldEvent
many_events what w = flat_map (many_of what) w.slots

-- the events happen at each router, in the order of the configurations: refusals are passed over.
-- It ends if memory runs out; for the list of events before anything is done. It is refused if no
-- event is selected
pub data ComesAbout (what : Many) (w : WorldValue) (answer : Result (Unit {0}) WorldFault)
    (w' : WorldValue) : Type 0 where
  no_room : answer ≡ Err (fault.Memory false) → w' ≡ w → ComesAbout what w answer w'
  none_meant : many_events what w ≡ [] → answer ≡ Err fault.NoLink → w' ≡ w
      → ComesAbout what w answer w'
  all_gone_over : (refused : ℕ) → many_events what w ≢ []
      → IsRun Does (many_events what w) w (Ok refused) w' → answer ≡ Ok tt
      → ComesAbout what w answer w'
  memory_ends : (f : WorldFault) → many_events what w ≢ []
      → IsRun Does (many_events what w) w (Err f) w' → answer ≡ Err f
      → ComesAbout what w answer w'
