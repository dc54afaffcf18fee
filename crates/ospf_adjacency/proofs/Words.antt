-- Parts of definitions of specs/ by names of their own, for the proofs.
use Rattle.std.specs.Prelude.{ℕ, Option, None, Some, ◌-◌, ◌+◌, ◌==◌, List, ◌∷◌, map, filter, fold, ◌&&◌, Bool, [], unwrap_or, if◌then◌else◌}
use Rattle.ospf_base.specs.Constants.{ip_header, packet_header}
use Rattle.ospf_base.specs.declared.ids.Addr.{Addr}
use Rattle.ospf_base.specs.declared.ids.RouterId.{RouterId}
use Rattle.ospf_lsdb.specs.Database.{Entry, Held, entry_of, instance_at, key_at, lsa_of}
use Rattle.ospf_neighbour.specs.Lists.{resent}
use Rattle.ospf_neighbour.specs.Neighbour.{NeighbourValue, new_neighbour}
use Rattle.ospf_neighbour.specs.Neighbours.{neighbour_of}
use Rattle.ospf_neighbour.specs.declared.machine.NbrEvent.{NbrEvent}
use Rattle.ospf_neighbour.specs.declared.machine.NbrEvent.TheVariants.{AdjOk, HelloReceived, TwoWayReceived, OneWayReceived}
use Rattle.ospf_packet.specs.Meaning.{update}
use Rattle.ospf_area.specs.Packets.{PendingPacket}
use Rattle.ospf_area.specs.Sending.{sent_lsa}
use Rattle.ospf_neighbour.specs.declared.iface.candidate.Candidate.{Candidate}
use Rattle.ospf_neighbour.specs.Machine.{is_two_way}
use Rattle.ospf_neighbour.specs.Interface.Election.{differs}
use Rattle.ospf_neighbour.specs.declared.iface.machine.Iface.{Iface}
use Rattle.ospf_neighbour.specs.declared.iface.machine.IfaceState.{IfaceState}
use Rattle.ospf_lsa.specs.declared.header.LsaHeader.{LsaHeader}
use Rattle.ospf_packet.specs.declared.body.Description.{Description}
use Rattle.ospf_packet.specs.declared.body.Hello.{Hello}
use Rattle.ospf_packet.specs.declared.entry.RequestEntry.{RequestEntry}
use Rattle.ospf_exchange.specs.Exchange.{after_dd, dd_answer}
use Rattle.ospf_exchange.specs.Requests.{is_asked}
use Rattle.ospf_exchange.specs.declared.rule.Local.{Local}
use Rattle.ospf_area.specs.Changes.{after_event}
use Rattle.ospf_area.specs.Turns.{Turn}
use Rattle.ospf_adjacency.specs.Adjacency.{is_broadcast, wants_adjacency}
use Rattle.ospf_adjacency.specs.Descriptions.{answered_turn, event_turn, is_init}
use Rattle.ospf_adjacency.specs.Heard.{is_settled}
use Rattle.ospf_adjacency.specs.Packing.{update_count}
use Rattle.std.specs.List.{list_any}
use Rattle.ospf_base.specs.Keys.{same_key}
use Rattle.ospf_base.specs.declared.ids.LsaKey.{LsaKey}
use Rattle.ospf_flood.proofs.Words.{is_resend_due}

-- a copy that goes to the neighbour counts as sent to it, where it is on its retransmission list (13.6)
abbrev pub resent_copy : Option Entry → ℕ → NeighbourValue → NeighbourValue
resent_copy o tick n = elim o [
  | None ↦ n
  | Some e ↦ resent (instance_at e) tick n
]

-- copies that go to the neighbour count as sent to it
abbrev pub resent_keys : List Held → ℕ → List LsaKey → NeighbourValue → NeighbourValue
resent_keys db tick keys n = fold (λ (n : NeighbourValue) key. resent_copy (entry_of db key) tick n) n keys

-- the keys of the database that a Request asks for
abbrev pub asked_keys : List Held → List RequestEntry → List LsaKey
asked_keys db es = filter (is_asked es) (map key_at db)

-- in Init a Database Description is 2-WayReceived first (10.6)
abbrev pub greeted_turn : Iface → Local → Turn → Turn
greeted_turn i local t = if is_init t.neighbour.state then event_turn i local (TwoWayReceived (wants_adjacency i t.neighbour.address)) t else t

-- a Database Description that is looked at in the neighbour's state (10.6)
abbrev pub exchange_turn : Iface → Local → RouterId → Description → List LsaHeader → List Held → Turn → Turn
exchange_turn i local sender d headers db t = answered_turn (dd_answer local sender d headers t.neighbour) i local (record t { neighbour = after_dd local sender d headers db t.neighbour })

-- HelloReceived; and on broadcast links what the Hello declares is stored (10.5)
abbrev pub heard : Iface → Hello → NeighbourValue → NeighbourValue
heard i h n =
    if is_broadcast i
    then record (after_event HelloReceived i.settings.dead n)
    { declared = record { priority = h.priority; dr = h.designated; backup = h.backup } }
    else after_event HelloReceived i.settings.dead n

-- 2-WayReceived where the Hello names the router, else 1-WayReceived (10.5)
abbrev pub naming_event : Iface → Bool → NeighbourValue → NbrEvent
naming_event i named n = if named then TwoWayReceived (wants_adjacency i n.address) else OneWayReceived

-- the sender of a packet: a neighbour, or one that was not known before (10.5)
abbrev pub sender_of : List NeighbourValue → RouterId → Addr → NeighbourValue
sender_of ns q source = unwrap_or (neighbour_of ns q) (new_neighbour q source)

-- an election is due by a Database Description, which may be 2-WayReceived: NeighborChange (9.3)
abbrev pub elects_by_change : IfaceState → NeighbourValue → NeighbourValue → Bool
elects_by_change s n m = is_settled s && differs (is_two_way n.state) (is_two_way m.state)

-- no Hello came for RouterDeadInterval (10.2, InactivityTimer)
abbrev pub is_inactive : NeighbourValue → Bool
is_inactive n = n.inactivity == 1

-- AdjOK? (10.4)
abbrev pub adj_ok_for : Iface → NeighbourValue → NbrEvent
adj_ok_for i n = AdjOk (wants_adjacency i n.address)

-- an Update of these LSAs to this address (13.3)
abbrev pub update_to : Addr → List (List ℕ) → PendingPacket
update_to destination lsas = record { destination = destination; body = update lsas }

-- how many bytes of LSAs an Update has room for
abbrev pub update_room : ℕ → ℕ
update_room mtu = mtu - (ip_header + packet_header + update_count)

abbrev pub inactivity_ticked : NeighbourValue → NeighbourValue
inactivity_ticked n = record n { inactivity = n.inactivity - 1 }

-- the copy of an entry, if there is one, as it is sent: InfTransDelay older (13.3)
abbrev pub with_copy : ℕ → Option Entry → List (List ℕ) → List (List ℕ)
with_copy delay o rest = elim o [
  | None ↦ rest
  | Some e ↦ sent_lsa delay (lsa_of e) ∷ rest
]

abbrev pub last_batch : List (List ℕ) → List (List (List ℕ))
last_batch [] = []
last_batch (lsa ∷ lsas) = (lsa ∷ lsas) ∷ []

-- a neighbour as it takes part in an election (9.4, step 1)
abbrev pub candidate_of : NeighbourValue → Candidate
candidate_of n = record { id = n.router; address = n.address; priority = n.declared.priority; dr = n.declared.dr; backup = n.declared.backup }

-- the neighbours in 2-Way or above (9.4, step 1)
abbrev pub taking_part : List NeighbourValue → List Candidate
taking_part ns = map candidate_of (filter (λ n. is_two_way n.state) ns)

-- an entry of the key is due on the neighbour's retransmission list (13.6)
abbrev pub is_key_due : ℕ → ℕ → NeighbourValue → LsaKey → Bool
is_key_due retransmit tick n key = list_any (λ l. is_resend_due retransmit tick l && same_key l.instance.key key) n.retransmission
