-- What each part of a step makes of one link, and what goes out of it (RFC 2328, sections
-- 9.3, 9.5, 10.2, 10.5 and 10.6).
use Rattle.std.specs.Prelude.{◌&&◌, ◌||◌, ◌-◌, not, nat_le, ℕ, Bool, false, List, [], Option, None, Some, if◌then◌else◌}
use Rattle.ospf_base.specs.declared.ids.LsaKey.{LsaKey}
use Rattle.ospf_base.specs.declared.ids.RouterId.{RouterId}
use Rattle.ospf_neighbour.specs.declared.iface.machine.Iface.{Iface}
use Rattle.ospf_lsa.specs.declared.header.LsaHeader.{LsaHeader}
use Rattle.ospf_lsdb.specs.Database.{Held}
use Rattle.ospf_neighbour.specs.Neighbours.{neighbour_of}
use Rattle.ospf_packet.specs.declared.body.Description.{Description}
use Rattle.ospf_packet.specs.declared.body.Hello.{Hello}
use Rattle.ospf_packet.specs.declared.entry.RequestEntry.{RequestEntry}
use Rattle.ospf_exchange.specs.declared.rule.Local.{Local}
use Rattle.ospf_area.specs.Outputs.{SentValue}
use Rattle.ospf_area.specs.State.{LinkValue}
use Rattle.ospf_area.specs.declared.flooding.PacketSource.{PacketSource}
use Rattle.ospf_area.specs.declared.sending.RouterContext.{RouterContext}
use Rattle.ospf_adjacency.specs.Descriptions.{description_turn}
use Rattle.ospf_area.specs.Packets.{packet_if}
use Rattle.ospf_adjacency.specs.Heard.{Neighbourhood, is_settled, receive_hello, neighbourhood, put_back, turn_of}
use Rattle.ospf_neighbour.specs.Interface.Election.{differs}
use Rattle.ospf_neighbour.specs.Interface.Machine.{is_down, started}
use Rattle.ospf_neighbour.specs.Machine.{is_two_way}
use Rattle.ospf_adjacency.specs.Links.{down, elects_by_timers, hello_packet, hello_ticked, timed}
use Rattle.ospf_adjacency.specs.Answers.{answer_turn, answered_keys}
use Rattle.ospf_area.specs.Outboxes.{OutboxValue, posted_all, local_by}

-- the link's neighbours as a part finds them: nothing has gone out yet
abbrev pub neighbourhood_of : LinkValue → ℕ → Neighbourhood
neighbourhood_of link next =
    record { neighbours = link.neighbours; elects = link.elects; next = next; sent = [] }

-- and where some has
abbrev pub neighbourhood_at : LinkValue → OutboxValue → Neighbourhood
neighbourhood_at link p = neighbourhood link.neighbours link.elects p

-- the link as a part leaves it
abbrev pub with_neighbourhood : Neighbourhood → LinkValue → LinkValue
with_neighbourhood x link = record link { neighbours = x.neighbours; elects = x.elects }

-- and what it leaves besides the link
abbrev pub left_beside : Neighbourhood → OutboxValue
left_beside x = record { next = x.next; sent = x.sent }

-- ---- packets that arrive

-- a Hello of the router f that arrives on a link, and names this router or does not (10.5)
abbrev pub hello_comes : RouterContext → PacketSource → Hello → Bool → OutboxValue → LinkValue
    → Neighbourhood
hello_comes own f h named p link =
    receive_hello link.iface (local_by own link.settings) f.router f.address h named
    (neighbourhood_at link p)

-- where nothing has gone out yet
abbrev pub hello_part : RouterContext → PacketSource → Hello → Bool → ℕ → LinkValue → Neighbourhood
hello_part own f h named next link =
    receive_hello link.iface (local_by own link.settings) f.router f.address h named
    (neighbourhood_of link next)

-- a Database Description of router q, which may be no neighbour (10.6). It may be 2-WayReceived:
-- then an election is due by NeighborChange (9.3)
abbrev pub description_on : Iface → Local → RouterId → Description → List LsaHeader → List Held
    → Neighbourhood → Neighbourhood
description_on i local q d headers db x = elim (neighbour_of x.neighbours q) [
  | None ↦ x
  | Some n ↦
      let t = description_turn i local q d headers db (turn_of n x) in
      let changes = differs (is_two_way n.state) (is_two_way t.neighbour.state) in
      put_back (is_settled i.state && changes) t x
]

-- a Database Description that arrives on a link
abbrev pub description_comes : RouterContext → PacketSource → Description → List LsaHeader
    → List Held → OutboxValue
    → LinkValue
    → Neighbourhood
description_comes own f d headers db p link =
    description_on link.iface (local_by own link.settings) f.router d headers db
    (neighbourhood_at link p)

-- where nothing has gone out yet
abbrev pub description_part : RouterContext → PacketSource → Description → List LsaHeader
    → List Held → ℕ
    → LinkValue → Neighbourhood
description_part own f d headers db next link =
    description_on link.iface (local_by own link.settings) f.router d headers db
    (neighbourhood_of link next)

-- a Request of router q, which may be no neighbour (10.7)
abbrev pub request_on : Iface → Local → RouterId → ℕ → List Held → List RequestEntry → Neighbourhood
    → Neighbourhood
request_on i local q delay db entries x =
    elim (neighbour_of x.neighbours q) [
      | None ↦ x
      | Some n ↦ put_back false (answer_turn i local delay db entries (turn_of n x)) x
    ]

-- a Request that arrives on a link
abbrev pub request_at : RouterContext → PacketSource → List Held → List RequestEntry → OutboxValue
    → LinkValue
    → Neighbourhood
request_at own f db entries p link =
    request_on link.iface (local_by own link.settings) f.router link.settings.transmit_delay db
    entries (neighbourhood_at link p)

-- where nothing has gone out yet
abbrev pub request_part : RouterContext → PacketSource → List Held → List RequestEntry → ℕ
    → LinkValue
    → Neighbourhood
request_part own f db entries next link =
    request_on link.iface (local_by own link.settings) f.router link.settings.transmit_delay db
    entries (neighbourhood_of link next)

-- the keys whose copies answer a Request of router q on a link, where both exist (10.7)
abbrev pub answered_on : Option LinkValue → RouterId → List Held → List RequestEntry → List LsaKey
answered_on None q db entries = []
answered_on (Some link) q db entries =
    elim (neighbour_of link.neighbours q) [ None ↦ [] | Some n ↦ answered_keys db entries ]

-- ---- links that go up and down

-- a link that goes up: InterfaceUp, where it is down (9.3)
abbrev pub link_up : LinkValue → LinkValue
link_up link =
    record link {
      iface = (if is_down link.iface.state then started link.iface else link.iface);
    }

-- a link that goes down, where it is up: its neighbours get KillNbr, and no acknowledgement and
-- no election waits any more (9.3)
abbrev pub link_down : LinkValue → LinkValue
link_down link =
    if is_down link.iface.state then link
    else record link { iface = down link.iface; neighbours = []; delayed = []; elects = false }

-- ---- ticks

-- the timers of a link, a tick later (9.3, 10.3)
abbrev pub link_timed : LinkValue → LinkValue
link_timed link = record link {
  iface = record link.iface { wait = link.iface.wait - 1 };
  neighbours = timed link.neighbours;
  elects = link.elects || elects_by_timers link.iface link.neighbours;
}

-- the Hello that goes out of link l, if one is due: the link is up, and HelloInterval is over (9.5)
abbrev pub hello_out : RouterContext → ℕ → LinkValue → List SentValue
hello_out own l link =
    posted_all own l (hello_ticked link.iface)
    (packet_if (not (is_down link.iface.state) && nat_le link.iface.hello_in 1)
    (hello_packet link.iface link.neighbours))
