-- Laws: what is read of a router's neighbours after changes of all links, of its numbers, of
-- its marks and of what it sends.
use Rattle.std.specs.Prelude.{◌≡◌, ◌==◌, ◌+◌, ◌&&◌, ◌⊎◌, ◌↔◌, ◌≤◌, ℕ, ℤ, Bool, true, false, Option, None, Some, List, [], ◌∷◌, length, map, option_map, slice_get, if◌then◌else◌}
use Rattle.std.specs.Int.{int_max}
use Rattle.ospf_base.specs.Constants.{ip_header, largest_lsa, largest_packet, packet_header}
use Rattle.ospf_base.specs.Keys.{same_key}
use Rattle.ospf_base.specs.declared.ids.Instance.{Instance}
use Rattle.ospf_base.specs.declared.ids.LsaKey.{LsaKey}
use Rattle.ospf_base.specs.declared.ids.RouterId.{RouterId}
use Rattle.ospf_flood.specs.Offers.{instance_with, flooded}
use Rattle.ospf_lsa.specs.Recency.{recency}
use Rattle.ospf_lsa.specs.declared.header.LsaHeader.{LsaHeader}
use Rattle.ospf_lsa.specs.declared.recency.Recency.TheVariants.{Newer}
use Rattle.ospf_lsdb.specs.Database as lsdb
use Rattle.ospf_lsdb.specs.Database.{Ages, Entry, Held, Installs, Puts, held_of}
use Rattle.ospf_neighbour.specs.Lists.{is_key_listed, key_unlisted, request_of}
use Rattle.ospf_neighbour.specs.Machine.{is_exchanging}
use Rattle.ospf_neighbour.specs.Neighbour.{NeighbourValue}
use Rattle.ospf_packet.specs.Meaning as meaning
use Rattle.ospf_exchange.specs.Requests.{asked_next}
use Rattle.ospf_packet.specs.Meaning.{BodyMeaning, Meaning, packet_bytes}
use Rattle.ospf_area.specs.Asking.{turned_link, request_body, turned_to_next}
use Rattle.ospf_area.specs.Changes.{changed_at, delayed_at, neighbour_changed}
use Rattle.ospf_area.specs.Flooding.{came_from, flooded_links, on_link, released}
use Rattle.ospf_area.specs.Numbers.{counts, is_own, marked}
use Rattle.ospf_area.specs.Outputs.{SentValue}
use Rattle.ospf_area.specs.Packing.{IsFilled}
use Rattle.ospf_area.specs.Sending.{datagrams, packet_from, update_out}
use Rattle.ospf_lsdb.specs.Moments.{among}
use Rattle.ospf_area.specs.State.{AreaValue, LinkValue, WaitsIn, kept_number, neighbour_at, numbering_of}
use Rattle.ospf_area.specs.declared.changes.AdjacencyChange.{AdjacencyChange}
use Rattle.ospf_area.specs.declared.flooding.PacketSource.{PacketSource}
use Rattle.ospf_area.specs.declared.sending.RouterContext.{RouterContext}
use Rattle.ospf_area.specs.declared.sending.Way.{Way}

-- ---- each neighbour

-- the old copy leaves the list of each neighbour (13, step 5c)
abbrev pub ReleasedNeighbours : Type 0
ReleasedNeighbours = (key : LsaKey) (links : List LinkValue) (l : ℕ) (q : RouterId)
    → neighbour_at (released key links) l q ≡ option_map (key_unlisted key) (neighbour_at links l q)

-- an LSA is flooded to each neighbour, or past it (13.3)
abbrev pub FloodedNeighbours : Type 0
FloodedNeighbours =
    (key : LsaKey) (h : LsaHeader) (from : Option PacketSource) (tick : ℕ) (links : List LinkValue)
    (l : ℕ) (q : RouterId)
    → neighbour_at (flooded_links key h from tick links) l q
    ≡ option_map (λ n. flooded key h (came_from (on_link from l) n) tick n) (neighbour_at links l q)

-- a change affects only the origin's neighbour
abbrev pub changed_there : PacketSource → AdjacencyChange → ℕ → ℕ → NeighbourValue → NeighbourValue
changed_there f change tick l n =
    if l == f.link
    then (if n.router.0 == f.router.0 then neighbour_changed change tick n else n)
    else n

-- the law: of all neighbours, only that one changes
abbrev pub ChangesOne : Type 0
ChangesOne =
    (f : PacketSource) (change : AdjacencyChange) (tick : ℕ) (links : List LinkValue) (l : ℕ)
    (q : RouterId)
    → neighbour_at (changed_at f change tick links) l q
    ≡ option_map (changed_there f change tick l) (neighbour_at links l q)

-- each neighbour gets LoadingDone and its next Request, by the MTU of its link
abbrev pub turned_there : RouterContext → Option LinkValue → NeighbourValue → NeighbourValue
turned_there own None n = n
turned_there own (Some link) n = turned_to_next link.settings.mtu own.tick n

-- the law: each neighbour is turned to its next Request by itself
abbrev pub TurnedNeighbours : Type 0
TurnedNeighbours = (own : RouterContext) (links : List LinkValue) (l : ℕ) (q : RouterId)
    → neighbour_at (map (turned_link own) links) l q
    ≡ option_map (turned_there own (slice_get links l)) (neighbour_at links l q)

-- an acknowledgement that waits changes no neighbour
abbrev pub DelayedNeighbours : Type 0
DelayedNeighbours = (number : ℕ) (h : LsaHeader) (links : List LinkValue) (l : ℕ) (q : RouterId)
    → neighbour_at (delayed_at number h links) l q ≡ neighbour_at links l q

-- ---- what waits for an acknowledgement

-- the old copy leaves all lists, and takes nothing of another key along (13, step 5c)
pub record ReleaseTakesItsKey : Type 0 where
  pub others : (key : LsaKey) (links : List LinkValue) (l : ℕ) (q : RouterId) (j : Instance)
      → WaitsIn (neighbour_at links l q) j
      → WaitsIn (neighbour_at (released key links) l q) j ⊎ (j.key ≡ key)
  pub gone : (key : LsaKey) (links : List LinkValue) (l : ℕ) (q : RouterId) (n : NeighbourValue)
      → neighbour_at (released key links) l q ≡ Some n → is_key_listed key n.retransmission ≡ false

-- a flood removes only instances of its own key (13.3)
abbrev pub FloodsTakeTheirKey : Type 0
FloodsTakeTheirKey =
    (key : LsaKey) (h : LsaHeader) (from : Option PacketSource) (tick : ℕ) (links : List LinkValue)
    (l : ℕ) (q : RouterId) (j : Instance)
    → WaitsIn (neighbour_at links l q) j
    → WaitsIn (neighbour_at (flooded_links key h from tick links) l q) j ⊎ (j.key ≡ key)

-- LoadingDone and Requests change nothing of what waits
abbrev pub TurnsTakeNothing : Type 0
TurnsTakeNothing = (own : RouterContext) (links : List LinkValue) (l : ℕ) (q : RouterId)
    (j : Instance)
    → WaitsIn (neighbour_at (map (turned_link own) links) l q) j
    ↔ WaitsIn (neighbour_at links l q) j

-- why a neighbour in Exchange or above need not acknowledge an LSA (13.3, step 1): the neighbour
-- sent it, or has described one that is not older
pub data IsSpared (key : LsaKey) (h : LsaHeader) (here : Option PacketSource) (n : NeighbourValue)
    : Type 0 where
  Came : came_from here n ≡ true → IsSpared key h here n
  Described : (entry : LsaHeader) → request_of key n.requests ≡ Some entry
      → (recency h entry ≡ Newer → ⊥) → IsSpared key h here n

-- each neighbour in Exchange or above waits for what is flooded, or is spared (13.3, step 1)
abbrev pub FloodReaches : Type 0
FloodReaches =
    (key : LsaKey) (h : LsaHeader) (from : Option PacketSource) (tick : ℕ) (links : List LinkValue)
    (l : ℕ) (q : RouterId) (n : NeighbourValue)
    → neighbour_at links l q ≡ Some n → is_exchanging n.state ≡ true
    → WaitsIn (neighbour_at (flooded_links key h from tick links) l q) (instance_with key h)
    ⊎ IsSpared key h (on_link from l) n

-- ---- numbers and marks

-- of the router's own keys the greatest number is kept, and no other number changes (12.1.6)
abbrev pub KeepsGreatest : Type 0
KeepsGreatest = (key : LsaKey) (number : ℤ) (s : AreaValue) (k : LsaKey)
    → (elim (numbering_of (counts key number s) k) [ None ↦ s.floor | Some n ↦ n.kept ])
    ≡ (if same_key key k && is_own s.router k then int_max (kept_number s k) number
    else kept_number s k)

-- a mark is one of its key (13, step 8)
abbrev pub MarksOne : Type 0
MarksOne =
    (key : LsaKey) (went : Bool) (sent : List LsaKey) (k : LsaKey)
    → among (marked key went sent) k ≡ (if same_key key k then went else among sent k)

-- ---- what is sent

-- a packet as it goes out
abbrev pub sent_as : Way → Meaning → SentValue
sent_as way m =
    record {
      link = way.link;
      source = way.source;
      destination = way.destination;
      bytes = packet_bytes m;
      packet = m;
    }

-- a packet that is not too long goes out
abbrev pub ShortAreSent : Type 0
ShortAreSent =
    (way : Way) (m : Meaning) → length (packet_bytes m) ≤ largest_packet
    → datagrams way m ≡ sent_as way m ∷ []

-- and so does an LSA in an Update of its own
abbrev pub LsasAreSent : Type 0
LsasAreSent = (own : RouterContext) (way : Way) (lsa : List ℕ) → length lsa ≤ largest_lsa
    → update_out own way (lsa ∷ []) ≡ sent_as way (packet_from own (meaning.update (lsa ∷ []))) ∷ []

-- ---- how Requests are filled

-- the Request for the LSAs of these headers (10.9)
abbrev pub request_for : List LsaHeader → BodyMeaning
request_for headers =
    meaning.request
    (map (λ (h : LsaHeader). record { kind = h.kind; id = h.id; router = h.router }) headers)

-- a Request asks for the first headers of the request list, as many as fit the MTU (10.9)
abbrev pub RequestsAreFilled : Type 0
RequestsAreFilled =
    (own : RouterContext) (mtu tick : ℕ) (n : NeighbourValue) → ip_header + packet_header ≤ mtu
    → (named rest : List LsaHeader) × (request_body (asked_next mtu tick n) ≡ request_for named)
    × IsFilled (λ headers. packet_from own (request_for headers)) mtu n.requests named rest

-- ---- how long the LSAs of a database are

-- an LSA that an Update has room for: two bytes of age, and the contents
abbrev pub IsShort : Held → Type 0
IsShort h = 2 + length h.entry.contents ≤ largest_lsa

-- each LSA of a database is short
abbrev pub AreShort : List Held → Type 0
AreShort db = (key : LsaKey) (h : Held) → held_of db key ≡ Some h → IsShort h

-- whatever happens to a database, its LSAs remain short, if what is installed is short
pub record StayShort : Type 0 where
  pub installed : (e : Entry) (before after : List Held) → Installs e before after
      → 2 + length e.contents ≤ largest_lsa → AreShort before → AreShort after
  pub aged : (before after : List Held) → Ages before after → AreShort before → AreShort after
  pub expired : (key : LsaKey) (before after : List Held)
      → Puts key (option_map lsdb.expired (held_of before key)) before after → AreShort before
      → AreShort after
  pub removed : (key : LsaKey) (before after : List Held)
      → Puts key (lsdb.removed (held_of before key)) before after → AreShort before → AreShort after
