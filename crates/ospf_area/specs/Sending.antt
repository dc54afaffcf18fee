-- How packets are sent (RFC 2328, sections 8.1 and 13.3).
use Rattle.std.specs.Prelude.{◌+◌, ◌++◌, ℕ, min, List, [], ◌∷◌, length, nat_lt, if◌then◌else◌}
use Rattle.ospf_base.specs.Addresses.{all_spf_routers}
use Rattle.ospf_base.specs.Constants.{largest_packet, max_age}
use Rattle.ospf_base.specs.declared.ids.Addr.{Addr}
use Rattle.ospf_base.specs.declared.interface.InterfaceKind.TheVariants.{PointToPoint, Broadcast}
use Rattle.ospf_neighbour.specs.declared.iface.machine.Iface.{Iface}
use Rattle.ospf_lsa.specs.Header.{header_of}
use Rattle.ospf_lsa.specs.Lsa.{with_age}
use Rattle.ospf_packet.specs.Meaning.{BodyMeaning, Meaning, packet_bytes}
use Rattle.ospf_packet.specs.Meaning as meaning
use Rattle.ospf_area.specs.Outputs.{SentValue, OutputsValue}
use Rattle.ospf_area.specs.State.{AreaValue}
use Rattle.ospf_area.specs.declared.sending.RouterContext.{RouterContext}
use Rattle.ospf_area.specs.declared.sending.Way.{Way}

-- what a call needs to know of the router
abbrev pub context_of : AreaValue → RouterContext
context_of s =
    record { router = s.router; area = s.area; tick = s.tick; passes_over = s.passes_over }

-- the outputs, and then these datagrams
abbrev pub and_sends : OutputsValue → List SentValue → OutputsValue
and_sends out datagrams = record out { sent = out.sent ++ datagrams }

-- a packet as it is sent. One that is longer than any that is read is not
unfoldable pub datagrams : Way → Meaning → List SentValue
datagrams way m =
    if nat_lt largest_packet (length (packet_bytes m)) then []
    else record {
      link = way.link;
      source = way.source;
      destination = way.destination;
      bytes = packet_bytes m;
      packet = m;
    } ∷ []

-- a packet of the router's
abbrev pub packet_from : RouterContext → BodyMeaning → Meaning
packet_from own body = record { router = own.router; area = own.area; body = body }

-- out of a link, from the interface's address
abbrev pub way_out : ℕ → Iface → Addr → Way
way_out l i destination =
    record { link = l; source = i.settings.address; destination = destination }

-- where all but Hellos, flooded Updates and delayed acknowledgements go: to the neighbour's
-- address, but on a point-to-point link to AllSPFRouters (8.1)
abbrev pub to_address : Iface → Addr → Addr
to_address i address = elim i.settings.kind [ PointToPoint ↦ all_spf_routers | Broadcast ↦ address ]

-- an LSA as it is sent: older by InfTransDelay (13.3, step 5)
abbrev pub sent_lsa : ℕ → List ℕ → List ℕ
sent_lsa delay lsa = with_age (min ((header_of lsa).age + delay) max_age) lsa

-- an Update of these LSAs
abbrev pub update_out : RouterContext → Way → List (List ℕ) → List SentValue
update_out own way lsas = datagrams way (packet_from own (meaning.update lsas))
