-- Parts of definitions of specs/ by names of their own, for the proofs.
use Rattle.std.specs.Prelude.{List, Option, None, Some, ℕ, ℤ, ◌≡◌, if◌then◌else◌, [], ◌==◌, ◌++◌, ◌&&◌, ◌∷◌, Bool, is_some, map, filter, not, false}
use Rattle.ospf_neighbour.specs.Neighbour.{NeighbourValue}
use Rattle.ospf_base.specs.declared.ids.RouterId.{RouterId}
use Rattle.ospf_area.specs.State.{AreaValue, LinkValue, neighbour, state_in}
use Rattle.ospf_neighbour.specs.declared.machine.NeighbourState.{NeighbourState}
use Rattle.ospf_lsdb.specs.Database.{Entry, lsa_of}
use Rattle.ospf_area.specs.declared.state.Numbering.{Numbering}
use Rattle.ospf_packet.specs.PacketOf as packets
use Rattle.ospf_area.specs.Outputs.{SentValue, OutputsValue}
use Rattle.ospf_neighbour.specs.declared.iface.machine.Iface.{Iface}
use Rattle.ospf_area.specs.Sending.{datagrams, packet_from, to_address, way_out, sent_lsa, update_out}
use Rattle.ospf_area.specs.declared.sending.RouterContext.{RouterContext}
use Rattle.ospf_area.specs.Asking.{request_body}
use Rattle.ospf_area.specs.Packets.{PendingPacket}
use Rattle.ospf_exchange.specs.Requests.{asked_next, request_due}
use Rattle.std.specs.List.{list_any}
use Rattle.std.specs.Int.{int_max}
use Rattle.ospf_base.specs.Keys.{same_key}
use Rattle.ospf_base.specs.declared.ids.LsaKey.{LsaKey}
use Rattle.ospf_flood.specs.Links.{flooding_address}
use Rattle.ospf_flood.specs.Offers.{offer_to, flooded}
use Rattle.ospf_lsa.specs.Header.{header_of}
use Rattle.ospf_lsa.specs.Lsa.{key_of}
use Rattle.ospf_lsa.specs.declared.header.LsaHeader.{LsaHeader}
use Rattle.ospf_neighbour.specs.Lists.{key_unlisted, request_of, is_listed}
use Rattle.ospf_packet.specs.declared.entry.RequestEntry.{RequestEntry}
use Rattle.ospf_area.specs.Flooding.{came_from, goes_out, on_link}
use Rattle.ospf_area.specs.declared.changes.AdjacencyChange.{AdjacencyChange}
use Rattle.ospf_area.specs.declared.flooding.PacketSource.{PacketSource}
use Rattle.ospf_flood.proofs.Words.{lists}
use Rattle.ospf_base.specs.declared.ids.Instance.{Instance}
use Rattle.ospf_neighbour.specs.declared.machine.NbrEvent.TheVariants as event
use Rattle.ospf_area.specs.Changes.{after_event, neighbour_changed}
use Rattle.ospf_area.specs.Numbers.{is_own}

-- LoadingDone, where nothing is left to request
abbrev pub loaded : NeighbourValue → NeighbourValue
loaded n = after_event event.LoadingDone 0 n

-- of the neighbours, the one of this Router ID changes
abbrev pub changed_if : RouterId → AdjacencyChange → ℕ → NeighbourValue → NeighbourValue
changed_if q change tick n = if n.router.0 == q.0 then neighbour_changed change tick n else n

-- a neighbour once the LSA was flooded to it, or past it
abbrev pub flooded_neighbour : LsaKey → LsaHeader → Option PacketSource → ℕ → NeighbourValue → NeighbourValue
flooded_neighbour key h here tick n = flooded key h (came_from here n) tick n

-- the numbering is that of this key
abbrev pub is_numbering_of : LsaKey → Numbering → Bool
is_numbering_of key n = same_key n.key key

-- the greatest number of a key of its own, with this one
abbrev pub greatest_after : LsaKey → ℤ → AreaValue → ℤ
greatest_after key number s = if is_own s.router key then int_max s.max_seq number else s.max_seq

-- the instance waits for the acknowledgement of a neighbour that may not be there
abbrev pub is_awaited_of : Instance → Option NeighbourValue → Bool
is_awaited_of i o = elim o [
  | None ↦ false
  | Some n ↦ is_listed i n.retransmission
]

-- the neighbours of a link that may not be there
abbrev pub neighbours_in : Option LinkValue → List NeighbourValue
neighbours_in None = []
neighbours_in (Some link) = link.neighbours

-- the state of router q on link l
abbrev pub state_of : AreaValue → ℕ → RouterId → NeighbourState
state_of s l q = state_in (neighbour s l q)

-- its bytes, at the present age
abbrev pub copy_in : Option Entry → Option (List ℕ)
copy_in None = None
copy_in (Some e) = Some (lsa_of e)

-- the number kept for a key: the next one issued is one more (12.1.6)
abbrev pub kept_in : ℤ → Option Numbering → ℤ
kept_in floor None = floor
kept_in floor (Some n) = n.kept

-- its bytes are read as its packet
abbrev pub IsReadAsSent : SentValue → Type 0
IsReadAsSent d = packets.packet_of d.bytes ≡ Some d.packet

abbrev pub request_to : RouterContext → ℕ → Iface → NeighbourValue → List SentValue
request_to own l i n = datagrams (way_out l i (to_address i n.address)) (packet_from own (request_body n))

-- a packet that goes out of link l, as it is sent
abbrev pub posted : RouterContext → ℕ → Iface → PendingPacket → List SentValue
posted own l i p = datagrams (way_out l i p.destination) (packet_from own p.body)

abbrev pub turn_request : RouterContext → ℕ → Iface → ℕ → NeighbourValue → List SentValue
turn_request own l i mtu n = if request_due (loaded n) then request_to own l i (asked_next mtu own.tick (loaded n)) else []

-- ---- one link, or one number, of a definition over all

-- the link of the origin, whose neighbour of this Router ID changes
abbrev pub changed_link : RouterId → AdjacencyChange → ℕ → LinkValue → LinkValue
changed_link q change tick link = record link { neighbours = map (changed_if q change tick) link.neighbours }

abbrev pub changed_on : PacketSource → AdjacencyChange → ℕ → ℕ → LinkValue → LinkValue
changed_on f change tick l link = if l == f.link then changed_link f.router change tick link else link

-- the link that an acknowledgement waits on, or another
abbrev pub delayed_on : ℕ → LsaHeader → ℕ → LinkValue → LinkValue
delayed_on number h l link = if l == number then record link { delayed = link.delayed ++ h ∷ [] } else link

-- the link of which no instance of the key waits
abbrev pub released_link : LsaKey → LinkValue → LinkValue
released_link key link = record link { neighbours = map (key_unlisted key) link.neighbours }

-- the link after a flood, the Update that goes out of it, and whether it went back
abbrev pub flooded_link : LsaKey → LsaHeader → Option PacketSource → ℕ → ℕ → LinkValue → LinkValue
flooded_link key h from tick l link = record link { neighbours = map (flooded_neighbour key h (on_link from l) tick) link.neighbours }

abbrev pub flooding_update : RouterContext → List ℕ → Option PacketSource → ℕ → LinkValue → List SentValue
flooding_update own lsa from l link =
    if goes_out (key_of lsa) (header_of lsa) from l link
    then update_out own (way_out l link.iface (flooding_address link.iface)) (sent_lsa link.settings.transmit_delay lsa ∷ [])
    else []

abbrev pub goes_back : LsaKey → LsaHeader → Option PacketSource → ℕ → LinkValue → Bool
goes_back key h from l link = is_some (on_link from l) && goes_out key h from l link

-- some neighbour waits for a flooded LSA
abbrev pub some_listed : LsaKey → LsaHeader → Option PacketSource → List NeighbourValue → Bool
some_listed key h here ns = list_any (λ n. lists (offer_to key h (came_from here n) n)) ns

-- a number, and all numbers, once one was counted; and marks without one
abbrev pub counted_one : LsaKey → ℤ → Numbering → Numbering
counted_one key number n = if is_numbering_of key n then record n { kept = int_max n.kept number } else n

abbrev pub counted : LsaKey → ℤ → ℤ → List Numbering → List Numbering
counted key number floor ns =
    if list_any (is_numbering_of key) ns then map (counted_one key number) ns
    else ns ++ record { key = key; kept = int_max floor number; issued_at = None } ∷ []

abbrev pub unmarked : LsaKey → List LsaKey → List LsaKey
unmarked key sent = filter (λ k. not (same_key k key)) sent

-- the entry of a Request that asks for the LSA of this header
abbrev pub entry_for : LsaHeader → RequestEntry
entry_for h = record { kind = h.kind; id = h.id; router = h.router }

-- the outputs, and then this instance taken
abbrev pub and_takes : OutputsValue → Instance → OutputsValue
and_takes out i = record out { taken = out.taken ++ i ∷ [] }

-- the key is on the request list of a neighbour that may not be there
abbrev pub is_requested_of : LsaKey → Option NeighbourValue → Bool
is_requested_of key o = elim o [
  | None ↦ false
  | Some n ↦ is_some (request_of key n.requests)
]
