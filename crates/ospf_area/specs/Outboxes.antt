-- What a part of a step at a link works with, what it leaves besides its neighbours, and how
-- packets go out (RFC 2328, section 8.1).
use Rattle.std.specs.Prelude.{◌++◌, ℕ, List}
use Rattle.std.specs.List.{flat_map}
use Rattle.ospf_neighbour.specs.declared.iface.machine.Iface.{Iface}
use Rattle.ospf_area.specs.Outputs.{SentValue}
use Rattle.ospf_area.specs.Sending.{datagrams, packet_from, way_out}
use Rattle.ospf_area.specs.declared.sending.RouterContext.{RouterContext}
use Rattle.ospf_area.specs.Packets.{PendingPacket}
use Rattle.ospf_area.specs.declared.state.LinkSettings.{LinkSettings}
use Rattle.ospf_exchange.specs.declared.rule.Local.{Local}

-- what a part needs to know of the router and of a link of these settings
abbrev pub local_by : RouterContext → LinkSettings → Local
local_by own settings =
    record {
      router = own.router;
      mtu = settings.mtu;
      tick = own.tick;
      passes_over = own.passes_over;
    }

-- the router's next DD number, and the packets that go out
pub record OutboxValue : Type 0 where
  pub next : ℕ
  pub sent : List PendingPacket

-- and then these packets
abbrev pub and_packets : OutboxValue → List PendingPacket → OutboxValue
and_packets p ps = record p { sent = p.sent ++ ps }

-- packets that go out of link l, in their order, as they are sent
abbrev pub posted_all : RouterContext → ℕ → Iface → List PendingPacket → List SentValue
posted_all own l i ps =
    flat_map
    (λ (p : PendingPacket). datagrams (way_out l i p.destination) (packet_from own p.body)) ps
