-- What every part of a step keeps of a neighbour: it may only fall below Exchange, except for a
-- Database Description, and new entries on its lists are copies of the database and, on the request
-- list, headers that it listed (RFC 2328, sections 10.3 and 10.6 to 10.9).
use Rattle.std.specs.Prelude.{⊤, ◌≡◌, ◌⊎◌, ◌+◌, ◌≤◌, ℕ, List, [], true, false, Contains, length}
use Rattle.ospf_base.specs.Constants.{ip_header, packet_header}
use Rattle.ospf_base.specs.declared.ids.Instance.{Instance}
use Rattle.ospf_base.specs.declared.ids.RouterId.{RouterId}
use Rattle.ospf_neighbour.specs.declared.iface.machine.Iface.{Iface}
use Rattle.ospf_lsa.specs.declared.header.LsaHeader.{LsaHeader}
use Rattle.ospf_lsdb.specs.Database.{Held}
use Rattle.ospf_neighbour.specs.Laws.{Waits}
use Rattle.ospf_neighbour.specs.Machine.{is_exchanging}
use Rattle.ospf_neighbour.specs.Neighbour.{NeighbourValue}
use Rattle.ospf_neighbour.specs.declared.machine.NbrEvent.{NbrEvent}
use Rattle.ospf_neighbour.specs.declared.machine.NbrEvent.TheVariants.{NegotiationDone}
use Rattle.ospf_packet.specs.Meaning.{BodyMeaning, hello, description, request, update, acknowledgment}
use Rattle.ospf_packet.specs.declared.body.Description.{Description}
use Rattle.ospf_packet.specs.declared.entry.RequestEntry.{RequestEntry}
use Rattle.ospf_packet.specs.Fields.{description_fields}
use Rattle.ospf_exchange.specs.Exchange.{describes}
use Rattle.ospf_exchange.specs.Laws.{HasHeader, HasInstance, KeepsRouter}
use Rattle.ospf_exchange.specs.declared.rule.Local.{Local}
use Rattle.ospf_adjacency.specs.Adjacency.{event_taken}
use Rattle.ospf_adjacency.specs.Descriptions.{event_turn, description_turn, dd_dropped}
use Rattle.ospf_area.specs.Turns.{Turn, request_turn}
use Rattle.ospf_area.specs.Packing.{IsFilled}
use Rattle.ospf_area.specs.Sending.{packet_from}
use Rattle.ospf_area.specs.declared.sending.RouterContext.{RouterContext}
use Rattle.ospf_area.specs.Packets.{PendingPacket, dd_packet}

-- a neighbour goes on: new on its lists are copies of the database, on the request list headers
-- that it listed, and in the last Database Description also what was on the summary list; what
-- waits for its acknowledgement stops waiting only below Exchange
pub record GoesOn (db : List Held) (told : List LsaHeader) (n m : NeighbourValue) : Type 0 where
  pub requests : (h : LsaHeader) → Contains m.requests h → Contains n.requests h ⊎ Contains told h
  pub retransmission : (i : Instance) → Waits m i → Waits n i ⊎ HasInstance db i
  pub summary : (h : LsaHeader) → Contains m.summary h → Contains n.summary h ⊎ HasHeader db h
  pub last_dd : (h : LsaHeader) → Contains m.last_dd h
      → Contains n.last_dd h ⊎ (Contains n.summary h ⊎ HasHeader db h)
  pub stays : (i : Instance) → Waits n i → Waits m i ⊎ (is_exchanging m.state ≡ false)

-- it does not enter Exchange
abbrev pub NeverEnters : NeighbourValue → NeighbourValue → Type 0
NeverEnters n m = is_exchanging m.state ≡ true → is_exchanging n.state ≡ true

-- the lists are as they were
pub record SameLists (n m : NeighbourValue) : Type 0 where
  pub summary : m.summary ≡ n.summary
  pub last_dd : m.last_dd ≡ n.last_dd
  pub requests : m.requests ≡ n.requests
  pub retransmission : m.retransmission ≡ n.retransmission

-- the lists are empty
pub record NoLists (n : NeighbourValue) : Type 0 where
  pub summary : n.summary ≡ []
  pub last_dd : n.last_dd ≡ []
  pub requests : n.requests ≡ []
  pub retransmission : n.retransmission ≡ []

-- a neighbour keeps its lists, or has none and is below Exchange
abbrev pub KeepsLists : NeighbourValue → NeighbourValue → Type 0
KeepsLists n m = SameLists n m ⊎ (NoLists m × (is_exchanging m.state ≡ false))

-- ---- the laws

-- no event adds to a list
abbrev pub EventsKeepLists : Type 0
EventsKeepLists =
    (e : NbrEvent) (dead next tick : ℕ) (n : NeighbourValue)
    → KeepsLists n (event_taken e dead next tick n)

-- and no event but NegotiationDone brings a neighbour into Exchange (10.3)
abbrev pub OnlyNegotiationEnters : Type 0
OnlyNegotiationEnters = (e : NbrEvent) (dead next tick : ℕ) (n : NeighbourValue)
    → is_exchanging (event_taken e dead next tick n).state ≡ true
    → (is_exchanging n.state ≡ true) ⊎ (e ≡ NegotiationDone)

-- an event does not turn it into another neighbour
abbrev pub EventsKeepRouters : Type 0
EventsKeepRouters =
    (e : NbrEvent) (dead next tick : ℕ) (n : NeighbourValue)
    → KeepsRouter n (event_taken e dead next tick n)

-- a neighbour that keeps its lists goes on
abbrev pub KeptGoesOn : Type 0
KeptGoesOn =
    (db : List Held) (told : List LsaHeader) (n m : NeighbourValue) → KeepsLists n m
    → GoesOn db told n m

-- the next Request, and LoadingDone, change no list
abbrev pub RequestsKeepLists : Type 0
RequestsKeepLists =
    (i : Iface) (local : Local) (t : Turn)
    → SameLists t.neighbour (request_turn i local t).neighbour

-- a Request that is due brings no neighbour into Exchange (10.9)
abbrev pub RequestsNeverEnter : Type 0
RequestsNeverEnter =
    (i : Iface) (local : Local) (t : Turn)
    → NeverEnters t.neighbour (request_turn i local t).neighbour

-- below Exchange nothing waits for an acknowledgement (10.1)
abbrev pub HasNoneBelow : NeighbourValue → Type 0
HasNoneBelow n = is_exchanging n.state ≡ false → length n.retransmission ≡ 0

-- a Database Description: the headers that the neighbour listed go on its request list
abbrev pub DescriptionGoesOn : Type 0
DescriptionGoesOn =
    (i : Iface) (local : Local) (sender : RouterId) (d : Description) (headers : List LsaHeader)
    (db : List Held) (t : Turn)
    → HasNoneBelow t.neighbour
    → GoesOn db headers t.neighbour (description_turn i local sender d headers db t).neighbour

-- one that is dropped changes nothing
abbrev pub DroppedIsUnchanged : Type 0
DroppedIsUnchanged =
    (i : Iface) (local : Local) (sender : RouterId) (d : Description) (headers : List LsaHeader)
    (db : List Held) (t : Turn)
    → dd_dropped local sender d headers t.neighbour ≡ true
    → description_turn i local sender d headers db t ≡ t

-- ---- what goes out

-- a packet to the neighbour is no Update and no Acknowledgment, and a Database Description names
-- only what was on its lists, or a copy of the database (10.8)
abbrev pub SaysOnly : List Held → NeighbourValue → BodyMeaning → Type 0
SaysOnly db n (hello fields heard) = ⊤
SaysOnly db n (description fields headers) =
    (h : LsaHeader) → Contains headers h
    → Contains n.last_dd h ⊎ (Contains n.summary h ⊎ HasHeader db h)
SaysOnly db n (request entries) = ⊤
SaysOnly db n (update lsas) = ⊥
SaysOnly db n (acknowledgment headers) = ⊥

-- so is each of a list that was not in another
abbrev pub AllSayOnly : List Held → NeighbourValue → List PendingPacket → List PendingPacket
    → Type 0
AllSayOnly db n before after =
    (p : PendingPacket) → Contains after p → Contains before p ⊎ SaysOnly db n p.body

-- by an event nothing goes out but Database Descriptions without headers (10.8)
abbrev pub EventsSayOnly : Type 0
EventsSayOnly =
    (i : Iface) (local : Local) (e : NbrEvent) (t : Turn) (p : PendingPacket)
    → Contains (event_turn i local e t).sent p
    → Contains t.sent p ⊎ ((fields : Description) × (p.body ≡ description fields []))

-- where a Request may be due nothing goes out but Requests (10.9)
abbrev pub RequestsSayOnly : Type 0
RequestsSayOnly =
    (i : Iface) (local : Local) (t : Turn) (p : PendingPacket)
    → Contains (request_turn i local t).sent p
    → Contains t.sent p ⊎ ((entries : List RequestEntry) × (p.body ≡ request entries))

-- what goes out by a Database Description that comes is such a packet (10.6)
abbrev pub DescriptionSaysOnly : Type 0
DescriptionSaysOnly =
    (i : Iface) (local : Local) (sender : RouterId) (d : Description) (headers : List LsaHeader)
    (db : List Held) (t : Turn)
    → AllSayOnly db t.neighbour t.sent (description_turn i local sender d headers db t).sent

-- ---- who it is

-- by a Database Description that comes the neighbour stays the router that it is (10.6)
abbrev pub DescriptionKeepsRouter : Type 0
DescriptionKeepsRouter =
    (i : Iface) (local : Local) (sender : RouterId) (d : Description) (headers : List LsaHeader)
    (db : List Held) (t : Turn)
    → KeepsRouter t.neighbour (description_turn i local sender d headers db t).neighbour

-- ---- how Database Descriptions are filled

-- a Database Description of the exchange has the first headers of the summary list, as many as fit
-- the MTU, and the others stay on the list (10.8)
abbrev pub DescriptionsAreFilled : Type 0
DescriptionsAreFilled =
    (own : RouterContext) (i : Iface) (local : Local) (number : ℕ) (n : NeighbourValue)
    → ip_header + packet_header + description_fields ≤ local.mtu
    → (fields : Description)
    × ((dd_packet i local.mtu (describes local number n)).body
    ≡ description fields (describes local number n).last_dd)
    × IsFilled (λ headers. packet_from own (description fields headers)) local.mtu n.summary
    (describes local number n).last_dd (describes local number n).summary
