-- What is known of the sender of a packet that is not dropped (RFC 2328, sections
-- 8.2, 10.5 to 10.7, 13 and 13.7).
use Rattle.std.specs.Prelude.{◌≡◌, ◌<◌, List, Some, None, false, true, length}
use Rattle.ospf_base.specs.declared.ids.Addr.{Addr}
use Rattle.ospf_base.specs.declared.ids.AreaId.{AreaId}
use Rattle.ospf_base.specs.declared.ids.RouterId.{RouterId}
use Rattle.ospf_exchange.specs.declared.rule.Local.{Local}
use Rattle.ospf_neighbour.specs.declared.iface.machine.Iface.{Iface}
use Rattle.ospf_neighbour.specs.Machine.{is_exchanging}
use Rattle.ospf_neighbour.specs.Neighbour.{NeighbourValue}
use Rattle.ospf_neighbour.specs.Neighbours.{AreNeighboursRising, max_neighbours, neighbour_of}
use Rattle.ospf_packet.specs.Meaning.{BodyMeaning, Meaning, hello, description, request, update, acknowledgment}
use Rattle.ospf_adjacency.specs.Descriptions.{dd_dropped}
use Rattle.ospf_router.specs.AreaStep.Receipt.{drop_of_packet, sender_in}

-- one that its address finds, and that has the Router ID, is the neighbour of that Router ID
abbrev pub SendersAreNeighbours : Type 0
SendersAreNeighbours =
    (i : Iface) (ns : List NeighbourValue) (q : RouterId) (source : Addr) (n : NeighbourValue)
    → AreNeighboursRising ns → sender_in i ns q source ≡ Some n → n.router.0 ≡ q.0
    → neighbour_of ns q ≡ Some n

-- the neighbour of a Router ID is in Exchange or above
abbrev pub IsExchanging : List NeighbourValue → RouterId → Type 0
IsExchanging ns q =
    (n : NeighbourValue) × (neighbour_of ns q ≡ Some n) × (is_exchanging n.state ≡ true)

-- there is what a packet of router q needs: room for a new neighbour, one that takes the Database
-- Description, or one in Exchange or above
abbrev pub CanBeTaken : Local → List NeighbourValue → RouterId → BodyMeaning → Type 0
CanBeTaken local ns q (hello fields heard) = neighbour_of ns q ≡ None → length ns < max_neighbours
CanBeTaken local ns q (description fields headers) =
    (n : NeighbourValue) × (neighbour_of ns q ≡ Some n)
    × (dd_dropped local q fields headers n ≡ false)
CanBeTaken local ns q (request entries) = IsExchanging ns q
CanBeTaken local ns q (update lsas) = IsExchanging ns q
CanBeTaken local ns q (acknowledgment headers) = IsExchanging ns q

-- a packet that is not dropped can be taken
abbrev pub NotDroppedIsTaken : Type 0
NotDroppedIsTaken =
    (local : Local) (i : Iface) (ns : List NeighbourValue) (area : AreaId)
    (source destination : Addr) (m : Meaning)
    → AreNeighboursRising ns → drop_of_packet local i ns area source destination m ≡ None
    → CanBeTaken local ns m.router m.body
