-- Which datagrams are dropped, and why (RFC 2328, sections 8.2, 10.5 to 10.7, 13 and 13.7).
use Rattle.std.specs.Prelude.{◌==◌, ◌&&◌, ◌||◌, not, nat_lt, Bool, List, Option, None, Some, find, length, is_some, bit_and, if◌then◌else◌}
use Rattle.ospf_base.specs.Addresses.{all_d_routers, all_spf_routers}
use Rattle.ospf_base.specs.declared.ids.Addr.{Addr}
use Rattle.ospf_base.specs.declared.ids.AreaId.{AreaId}
use Rattle.ospf_base.specs.declared.ids.RouterId.{RouterId}
use Rattle.ospf_neighbour.specs.Interface.Hello.{agrees}
use Rattle.ospf_neighbour.specs.Interface.Machine.{is_down, is_dr_or_backup}
use Rattle.ospf_neighbour.specs.declared.iface.machine.Iface.{Iface}
use Rattle.ospf_neighbour.specs.Machine.{is_exchanging}
use Rattle.ospf_neighbour.specs.Neighbour.{NeighbourValue, is_empty}
use Rattle.ospf_neighbour.specs.Neighbours.{max_neighbours, neighbour_of}
use Rattle.ospf_packet.specs.Meaning.{BodyMeaning, Meaning, hello, description, request, update, acknowledgment}
use Rattle.ospf_lsa.specs.declared.header.LsaHeader.{LsaHeader}
use Rattle.ospf_packet.specs.declared.body.Description.{Description}
use Rattle.ospf_exchange.specs.declared.rule.Local.{Local}
use Rattle.ospf_adjacency.specs.Adjacency.{is_broadcast}
use Rattle.ospf_adjacency.specs.Descriptions.{dd_dropped}
use Rattle.ospf_router.specs.declared.step.dropped.Dropped.{Dropped}
use Rattle.ospf_router.specs.declared.step.dropped.Dropped.TheVariants as dropped

-- ---- where it comes from and goes to

-- it is for this interface: for AllSPFRouters, for its address, or for AllDRouters where
-- the router is DR or Backup (8.2)
abbrev pub is_destination : Iface → Addr → Bool
is_destination i a =
    (a.0 == all_spf_routers.0) || (a.0 == i.settings.address.0)
    || ((a.0 == all_d_routers.0) && is_dr_or_backup i.state)

-- ---- who sent it

-- the sender among the neighbours: by its address on broadcast links, by its Router
-- ID on point-to-point links (8.2)
abbrev pub sender_in : Iface → List NeighbourValue → RouterId → Addr → Option NeighbourValue
sender_in i ns q source =
    if is_broadcast i then find (λ n. n.address.0 == source.0) ns else neighbour_of ns q

-- a Hello that agrees with the interface. Where its sender is not known, a neighbour may have its
-- Router ID at another address, or on a point-to-point link any other router be the neighbour
-- (8.2, 10.5), or there may be no room for one more
abbrev pub drop_of_hello : Iface → List NeighbourValue → RouterId → Option NeighbourValue
    → Option Dropped
drop_of_hello i ns q None =
    if (if is_broadcast i then is_some (neighbour_of ns q) else not (is_empty ns))
    then Some dropped.WrongRouter
    else if nat_lt (length ns) max_neighbours then None
    else Some dropped.State
drop_of_hello i ns q (Some n) = if n.router.0 == q.0 then None else Some dropped.WrongRouter

-- a Database Description, which its neighbour accepts or drops (10.6)
abbrev pub drop_of_description : Local → RouterId → Description → List LsaHeader
    → Option NeighbourValue → Option Dropped
drop_of_description local q d headers None = Some dropped.NoNeighbour
drop_of_description local q d headers (Some n) =
    if not (n.router.0 == q.0) then Some dropped.WrongRouter
    else if dd_dropped local q d headers n then Some dropped.State
    else None

-- another packet, which is accepted in Exchange and above (10.7, 13 and 13.7)
abbrev pub drop_below_exchange : RouterId → Option NeighbourValue → Option Dropped
drop_below_exchange q None = Some dropped.NoNeighbour
drop_below_exchange q (Some n) =
    if not (n.router.0 == q.0) then Some dropped.WrongRouter
    else if is_exchanging n.state then None
    else Some dropped.State

-- why a packet is dropped by what its body says, and by its sender, which may be no neighbour
abbrev pub drop_by_body : Local → BodyMeaning → Iface → List NeighbourValue → RouterId
    → Option NeighbourValue → Option Dropped
drop_by_body local (hello fields heard) i ns q sender =
    if agrees i fields then drop_of_hello i ns q sender else Some dropped.HelloMismatch
drop_by_body local (description fields headers) i ns q sender =
    drop_of_description local q fields headers sender
drop_by_body local (request entries) i ns q sender = drop_below_exchange q sender
drop_by_body local (update lsas) i ns q sender = drop_below_exchange q sender
drop_by_body local (acknowledgment headers) i ns q sender = drop_below_exchange q sender

-- why a packet is dropped, if it is, the first of these: the link is down; another area; the Router
-- ID of this router; for another destination; on a broadcast link from another network (8.2); and
-- what its body brings
abbrev pub drop_of_packet : Local → Iface → List NeighbourValue → AreaId → Addr → Addr → Meaning
    → Option Dropped
drop_of_packet local i ns area source destination m =
    if is_down i.state then Some dropped.Packet
    else if not (m.area.0 == area.0) then Some dropped.Area
    else if m.router.0 == i.settings.router.0 then Some dropped.OwnPacket
    else if not (is_destination i destination) then Some dropped.Destination
    else if is_broadcast i
    && not (bit_and source.0 i.settings.mask == bit_and i.settings.address.0 i.settings.mask)
    then Some dropped.Subnet
    else drop_by_body local m.body i ns m.router (sender_in i ns m.router source)
