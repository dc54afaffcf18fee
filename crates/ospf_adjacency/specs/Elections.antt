-- The election that ends a step on a link, with AdjOK? (RFC 2328, section 9.4).
use Rattle.std.specs.Prelude.{◌≡◌, ◌≢◌, ◌++◌, ℕ, Bool, true, false, List, [], ◌∷◌, map, filter, if◌then◌else◌}
use Rattle.std.specs.List.{AllByRecursion}
use Rattle.ospf_neighbour.specs.declared.iface.candidate.Candidate.{Candidate}
use Rattle.ospf_neighbour.specs.declared.iface.candidate.Elected.{Elected}
use Rattle.ospf_neighbour.specs.Interface.Election.{IsElected}
use Rattle.ospf_neighbour.specs.declared.iface.machine.Iface.{Iface}
use Rattle.ospf_neighbour.specs.declared.iface.machine.IfaceState.{IfaceState}
use Rattle.ospf_neighbour.specs.declared.iface.machine.IfaceState.TheVariants as iface
use Rattle.ospf_neighbour.specs.Interface.Machine.{elected, is_changed, own_candidate}
use Rattle.ospf_neighbour.specs.declared.machine.NbrEvent.TheVariants.{AdjOk}
use Rattle.ospf_neighbour.specs.Machine.{is_two_way}
use Rattle.ospf_neighbour.specs.Neighbour.{NeighbourValue}
use Rattle.ospf_neighbour.specs.Neighbours.{AreNeighboursRising}
use Rattle.ospf_adjacency.specs.Adjacency.{wants_adjacency, begins_by, event_taken, number_by}
use Rattle.ospf_area.specs.Packets.{PendingPacket, dd_packet, packet_if}

-- ---- who takes part

-- the router itself, and the neighbours in 2-Way or above, each as it takes part in the election
-- (9.4, step 1)
abbrev pub candidates_of : Iface → List NeighbourValue → List Candidate
candidates_of i ns =
    own_candidate i ∷ map (λ (n : NeighbourValue). record {
      id = n.router;
      address = n.address;
      priority = n.declared.priority;
      dr = n.declared.dr;
      backup = n.declared.backup;
    }) (filter (λ (n : NeighbourValue). is_two_way n.state) ns)

-- ---- AdjOK?

-- the neighbours after AdjOK?, which changes none below 2-Way. Those with which an adjacency begins
-- take the router's DD numbers in rising Router ID (10.3, AdjOK?; 10.4)
abbrev pub adjusted : Iface → ℕ → ℕ → List NeighbourValue → List NeighbourValue
adjusted i tick next [] = []
adjusted i tick next (n ∷ ns) =
    let ok = AdjOk (wants_adjacency i n.address) in
    event_taken ok i.settings.dead next tick n ∷ adjusted i tick (number_by ok n next) ns

-- the router's next DD number then
abbrev pub number_after : Iface → ℕ → List NeighbourValue → ℕ
number_after i next [] = next
number_after i next (n ∷ ns) =
    number_after i (number_by (AdjOk (wants_adjacency i n.address)) n next) ns

-- the first DD packets that go out (10.8)
abbrev pub first_dds : Iface → ℕ → ℕ → ℕ → List NeighbourValue → List PendingPacket
first_dds i mtu tick next [] = []
first_dds i mtu tick next (n ∷ ns) =
    let ok = AdjOk (wants_adjacency i n.address) in
    packet_if (begins_by ok n) (dd_packet i mtu (event_taken ok i.settings.dead next tick n))
    ++ first_dds i mtu tick (number_by ok n next) ns

-- ---- the election

-- the states in which an election takes place (9.3)
abbrev pub elects_in : IfaceState → Bool
elects_in iface.Waiting = true
elects_in iface.DrOther = true
elects_in iface.Backup = true
elects_in iface.Dr = true
elects_in _ = false

-- a link's neighbours are in rising Router ID, and none is the router itself (8.2)
pub record AreOfLink (i : Iface) (ns : List NeighbourValue) : Type 0 where
  pub rising : AreNeighboursRising ns
  pub others : AllByRecursion (λ n. n.router.0 ≢ i.settings.router.0) ns

-- the interface has the result of the election, and its neighbours get AdjOK? where the DR
-- or the Backup changed (9.4)
pub record ElectsOn (mtu tick : ℕ) (i : Iface) (ns : List NeighbourValue) (next : ℕ)
    (sent : List PendingPacket) (i' : Iface) (ns' : List NeighbourValue) (next' : ℕ) : Type 0 where
  pub result : Elected
  pub is_elected : IsElected (candidates_of i ns) i.settings.router result
  pub interface : i' ≡ elected result i
  pub neighbours : ns' ≡ (if is_changed i result then adjusted i' tick next ns else ns)
  pub number : next' ≡ (if is_changed i result then number_after i' next ns else next)
  pub sends : sent ≡ (if is_changed i result then first_dds i' mtu tick next ns else [])
