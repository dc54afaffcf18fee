-- Hellos that come, and what they make of a neighbour and of its link's election
-- (RFC 2328, sections 9.2 and 10.5).
use Rattle.std.specs.Prelude.{◌==◌, ◌&&◌, ◌||◌, not, nat_lt, ℕ, List, [], ◌∷◌, Bool, true, false, unwrap_or, if◌then◌else◌}
use Rattle.std.specs.List.{list_any}
use Rattle.ospf_base.specs.Addresses.{nowhere}
use Rattle.ospf_base.specs.declared.ids.Addr.{Addr}
use Rattle.ospf_base.specs.declared.ids.RouterId.{RouterId}
use Rattle.ospf_neighbour.specs.Interface.Election.{differs}
use Rattle.ospf_neighbour.specs.declared.iface.machine.Iface.{Iface}
use Rattle.ospf_neighbour.specs.declared.iface.machine.IfaceState.{IfaceState}
use Rattle.ospf_neighbour.specs.declared.iface.machine.IfaceState.TheVariants as iface
use Rattle.ospf_neighbour.specs.declared.machine.NbrEvent.TheVariants.{HelloReceived, TwoWayReceived, OneWayReceived}
use Rattle.ospf_neighbour.specs.Machine.{is_two_way}
use Rattle.ospf_neighbour.specs.Neighbour.{NeighbourValue, new_neighbour}
use Rattle.ospf_neighbour.specs.Neighbours.{neighbour_of}
use Rattle.ospf_packet.specs.declared.body.Hello.{Hello}
use Rattle.ospf_exchange.specs.declared.rule.Local.{Local}
use Rattle.ospf_area.specs.Changes.{after_event}
use Rattle.ospf_adjacency.specs.Adjacency.{is_broadcast, wants_adjacency}
use Rattle.ospf_adjacency.specs.Descriptions.{event_turn}
use Rattle.ospf_area.specs.Turns.{Turn}
use Rattle.ospf_area.specs.Packets.{PendingPacket}
use Rattle.ospf_area.specs.Outboxes.{OutboxValue}
use Rattle.ospf_adjacency.specs.declared.heard.ElectionView.{ElectionView}

-- a Hello names the router among the neighbours that were heard (10.5)
abbrev pub names : List RouterId → RouterId → Bool
names rs q = list_any (λ r. r.0 == q.0) rs

-- ---- the neighbour

-- a Hello of the neighbour: HelloReceived, and on broadcast links what it declares is stored; then
-- 2-WayReceived where it names the router, else 1-WayReceived (10.5)
abbrev pub hello_effect : Iface → Local → Hello → Bool → Turn → Turn
hello_effect i local h named t =
    let n = t.neighbour in
    let m = after_event HelloReceived i.settings.dead n in
    event_turn i local
    (if named then TwoWayReceived (wants_adjacency i n.address) else OneWayReceived)
    (record t {
      neighbour =
          (if is_broadcast i
          then record m
          { declared = record { priority = h.priority; dr = h.designated; backup = h.backup } }
          else m);
    })

-- ---- the election of the link

-- what an election looks at in a neighbour: whether it is in 2-Way or above, its priority, whether
-- it declares itself DR and Backup, and whether it declares that there is no Backup (9.2, 9.4)
abbrev pub election_view : NeighbourValue → ElectionView
election_view n = record {
  two_way = is_two_way n.state;
  priority = n.declared.priority;
  is_dr = (n.declared.dr.0 == n.address.0);
  is_backup = (n.declared.backup.0 == n.address.0);
  sees_none = (n.declared.backup.0 == nowhere.0);
}

-- the neighbour has come into 2-Way or above, or fallen below it; or its priority has changed, or
-- it has begun or ceased to declare itself DR or Backup (9.2, NeighborChange)
abbrev pub is_neighbor_change : ElectionView → ElectionView → Bool
is_neighbor_change b c =
    differs b.two_way c.two_way || not (b.priority == c.priority) || differs b.is_dr c.is_dr
    || differs b.is_backup c.is_backup

-- it is known whether there is a Backup: a neighbour in 2-Way or above declares itself Backup, or
-- itself DR with no Backup (9.2, BackupSeen)
abbrev pub is_backup_seen : ElectionView → Bool
is_backup_seen c = c.two_way && (c.is_backup || (c.is_dr && c.sees_none))

-- the states in which NeighborChange elects (9.3)
abbrev pub is_settled : IfaceState → Bool
is_settled iface.DrOther = true
is_settled iface.Backup = true
is_settled iface.Dr = true
is_settled _ = false

-- the interface waits for a Designated Router to make itself known (9.1)
abbrev pub is_waiting : IfaceState → Bool
is_waiting iface.Waiting = true
is_waiting _ = false

-- an election is due by a Hello: BackupSeen in Waiting, NeighborChange
-- in DROther, Backup and DR (9.3)
abbrev pub elects_by_hello : IfaceState → NeighbourValue → NeighbourValue → Bool
elects_by_hello s n m =
    (is_waiting s && is_backup_seen (election_view m))
    || (is_settled s && is_neighbor_change (election_view n) (election_view m))

-- ---- the neighbours of the link

-- the neighbours with one put in: in place of that of its Router ID, or between those of
-- lower and those of higher Router ID
abbrev pub put : NeighbourValue → List NeighbourValue → List NeighbourValue
put n [] = n ∷ []
put n (m ∷ ms) =
    if nat_lt m.router.0 n.router.0 then m ∷ put n ms
    else if m.router.0 == n.router.0 then n ∷ ms
    else n ∷ m ∷ ms

-- the neighbours of a link in a part of a step, whether it makes an election due, the router's
-- next DD number, and what goes out
pub record Neighbourhood : Type 0 where
  pub neighbours : List NeighbourValue
  pub elects : Bool
  pub next : ℕ
  pub sent : List PendingPacket

-- neighbours, with what a part of a step leaves besides them
abbrev pub neighbourhood : List NeighbourValue → Bool → OutboxValue → Neighbourhood
neighbourhood ns elects p =
    record { neighbours = ns; elects = elects; next = p.next; sent = p.sent }

-- one neighbour of them
abbrev pub turn_of : NeighbourValue → Neighbourhood → Turn
turn_of n x = record { neighbour = n; next = x.next; sent = x.sent }

-- after its turn it is put back, and may make an election due
abbrev pub put_back : Bool → Turn → Neighbourhood → Neighbourhood
put_back elects t x =
    record {
      neighbours = put t.neighbour x.neighbours;
      elects = x.elects || elects;
      next = t.next;
      sent = t.sent;
    }

-- a Hello of router q from this address: q is a neighbour, or becomes a new one (10.5)
abbrev pub receive_hello
    : Iface → Local → RouterId → Addr → Hello → Bool → Neighbourhood → Neighbourhood
receive_hello i local q source h named x =
    let n = unwrap_or (neighbour_of x.neighbours q) (new_neighbour q source) in
    let t = hello_effect i local h named (turn_of n x) in
    put_back (elects_by_hello i.state n t.neighbour) t x
