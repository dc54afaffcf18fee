-- Links that go up and down, their timers, and the Hellos that they send (RFC
-- 2328, sections 9.3, 9.5 and 10.3).
use Rattle.std.specs.Prelude.{◌==◌, ◌&&◌, ◌||◌, ◌-◌, not, nat_le, List, Bool, map, filter, if◌then◌else◌}
use Rattle.std.specs.List.{list_any}
use Rattle.ospf_base.specs.Addresses.{all_spf_routers}
use Rattle.ospf_neighbour.specs.declared.iface.machine.Iface.{Iface}
use Rattle.ospf_neighbour.specs.Interface.Hello.{own_hello}
use Rattle.ospf_neighbour.specs.Interface.Machine.{is_down, iface_stopped}
use Rattle.ospf_neighbour.specs.Machine.{is_two_way}
use Rattle.ospf_neighbour.specs.Neighbour.{NeighbourValue}
use Rattle.ospf_packet.specs.Meaning.{hello}
use Rattle.ospf_area.specs.Packets.{PendingPacket}
use Rattle.ospf_adjacency.specs.Heard.{is_waiting, is_settled}

-- ---- Hellos that go out

-- the Hello that a link sends to all: it names the link's neighbours (9.5)
abbrev pub hello_packet : Iface → List NeighbourValue → PendingPacket
hello_packet i ns =
    record {
      destination = all_spf_routers;
      body = hello (own_hello i) (map (λ n. n.router) ns);
    }

-- the Hello timer, a tick later: it starts again, or runs on, or stays
-- unchanged where the link is down (9.5)
abbrev pub hello_ticked : Iface → Iface
hello_ticked i =
    if is_down i.state then i
    else record i { hello_in = (if nat_le i.hello_in 1 then i.settings.hello else i.hello_in - 1) }

-- ---- up and down

-- InterfaceDown (9.3)
abbrev pub down : Iface → Iface
down i = if is_down i.state then i else iface_stopped i

-- ---- timers

-- the neighbours a tick later: those of which no Hello came for RouterDeadInterval are removed
-- (10.2 and 10.3, InactivityTimer)
abbrev pub timed : List NeighbourValue → List NeighbourValue
timed ns =
    map (λ (n : NeighbourValue). record n { inactivity = n.inactivity - 1 })
    (filter (λ n. not (n.inactivity == 1)) ns)

-- by the timers an election is due: the wait timer fires, or a neighbour in 2-Way or above
-- is removed (9.2, WaitTimer; 9.3)
abbrev pub elects_by_timers : Iface → List NeighbourValue → Bool
elects_by_timers i ns =
    (is_waiting i.state && (i.wait == 1))
    || (is_settled i.state && list_any (λ n. (n.inactivity == 1) && is_two_way n.state) ns)
