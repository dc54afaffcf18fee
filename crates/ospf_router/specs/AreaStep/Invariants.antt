-- What the types of a router's state say, as the laws of its parts read it.
use Rattle.std.specs.Prelude.{◌≡◌, ℕ, List, Some, false, length, slice_get}
use Rattle.ospf_base.specs.declared.ids.RouterId.{RouterId}
use Rattle.ospf_neighbour.specs.Neighbour.{NeighbourValue}
use Rattle.ospf_neighbour.specs.Neighbours.{AreNeighboursRising}
use Rattle.ospf_neighbour.specs.Machine.{is_exchanging}
use Rattle.ospf_area.specs.State.{AreaValue, LinkValue, neighbour_at}

-- the neighbours of each link are in rising Router ID
abbrev pub AreRising : List LinkValue → Type 0
AreRising links =
    (l : ℕ) (link : LinkValue) → slice_get links l ≡ Some link → AreNeighboursRising link.neighbours

-- nothing waits for the acknowledgement of router q on link l while that is below Exchange (10.1)
abbrev pub NoneWaitsBelow : AreaValue → ℕ → RouterId → Type 0
NoneWaitsBelow s l q =
    (n : NeighbourValue) → neighbour_at s.links l q ≡ Some n → is_exchanging n.state ≡ false
    → length n.retransmission ≡ 0
