-- What the answers to Requests and the repeats keep of a neighbour, and what they send (RFC
-- 2328, sections 10.7 and 13.6).
use Rattle.std.specs.Prelude.{◌≡◌, ◌⊎◌, ℕ, List, Some, Contains, map}
use Rattle.ospf_base.specs.Rising.{IsRisingBy}
use Rattle.ospf_base.specs.Keys.{Precedes}
use Rattle.ospf_base.specs.declared.ids.Addr.{Addr}
use Rattle.ospf_base.specs.declared.ids.LsaKey.{LsaKey}
use Rattle.ospf_neighbour.specs.declared.iface.machine.Iface.{Iface}
use Rattle.ospf_lsa.specs.declared.header.LsaHeader.{LsaHeader}
use Rattle.ospf_lsdb.specs.Database.{Entry, Held, IsDatabase, entry_of, lsa_of}
use Rattle.ospf_neighbour.specs.Neighbour.{NeighbourValue}
use Rattle.ospf_packet.specs.Meaning.{BodyMeaning, hello, description, request, update, acknowledgment}
use Rattle.ospf_packet.specs.declared.entry.RequestEntry.{RequestEntry}
use Rattle.ospf_exchange.specs.declared.rule.Local.{Local}
use Rattle.ospf_area.specs.Packing.{ArePacked}
use Rattle.ospf_area.specs.Sending.{packet_from, sent_lsa}
use Rattle.ospf_area.specs.declared.sending.RouterContext.{RouterContext}
use Rattle.ospf_area.specs.Turns.{Turn}
use Rattle.ospf_adjacency.specs.Laws.{GoesOn, NeverEnters, SaysOnly}
use Rattle.ospf_exchange.specs.Laws.{KeepsRouter}
use Rattle.ospf_area.specs.Packets.{PendingPacket}
use Rattle.ospf_adjacency.specs.Answers.{answer_turn, answered_keys}
use Rattle.ospf_adjacency.specs.Packing.{copies_of, updates_of}
use Rattle.ospf_adjacency.specs.Repeats.{due_keys, repeats_turn}

-- the LSA is a copy of the database, InfTransDelay older
abbrev pub IsCopy : List Held → ℕ → List ℕ → Type 0
IsCopy db delay lsa =
    (key : LsaKey) × (e : Entry) × (entry_of db key ≡ Some e) × (lsa ≡ sent_lsa delay (lsa_of e))

-- a packet to the neighbour is no Acknowledgment, an Update has only copies of the database, and a
-- Database Description names only what was on its lists, or copies
abbrev pub HasCopiesOnly : List Held → ℕ → NeighbourValue → BodyMeaning → Type 0
HasCopiesOnly db delay n (hello fields heard) = Unit {0}
HasCopiesOnly db delay n (description fields headers) = SaysOnly db n (description fields headers)
HasCopiesOnly db delay n (request entries) = Unit {0}
HasCopiesOnly db delay n (update lsas) = (lsa : List ℕ) → Contains lsas lsa → IsCopy db delay lsa
HasCopiesOnly db delay n (acknowledgment headers) = ⊥

-- what a part does with one neighbour
pub record IsQuiet (db : List Held) (delay : ℕ) (t u : Turn) : Type 0 where
  pub goes : (told : List LsaHeader) → GoesOn db told t.neighbour u.neighbour
  pub enters : NeverEnters t.neighbour u.neighbour
  pub same : KeepsRouter t.neighbour u.neighbour
  pub sends : (p : PendingPacket) → Contains u.sent p
      → Contains t.sent p ⊎ HasCopiesOnly db delay t.neighbour p.body

-- a Request that is answered, or not
abbrev pub AnswersAreQuiet : Type 0
AnswersAreQuiet =
    (i : Iface) (local : Local) (delay : ℕ) (db : List Held) (es : List RequestEntry) (t : Turn)
    → IsQuiet db delay t (answer_turn i local delay db es t)

-- what is sent again
abbrev pub RepeatsAreQuiet : Type 0
RepeatsAreQuiet =
    (i : Iface) (local : Local) (retransmit delay : ℕ) (db : List Held) (t : Turn)
    → IsQuiet db delay t (repeats_turn i local retransmit delay db t)

-- ---- how copies are packed

-- the Updates with the copies of these keys: they have the copies in the order of the keys, as many
-- in each as fit the MTU, and an LSA that does not fit has an Update of its own (10.7, 13.6)
abbrev pub UpdatesArePacked : Type 0
UpdatesArePacked =
    (own : RouterContext) (destination : Addr) (mtu delay : ℕ) (db : List Held) (keys : List LsaKey)
    → (packets : List (List (List ℕ)))
    × (updates_of destination mtu delay db keys
    ≡ map (λ lsas. record { destination = destination; body = update lsas }) packets)
    × ArePacked (λ lsas. packet_from own (update lsas)) mtu (copies_of db delay keys) packets

-- the keys whose copies answer a Request, and of those that go again, each once
-- and in their order (10.7, 13.6)
pub record KeysGoInOrder : Type 0 where
  pub answered : (db : List Held) (entries : List RequestEntry) → IsDatabase db
      → IsRisingBy Precedes (answered_keys db entries)
  pub again : (retransmit tick : ℕ) (db : List Held) (n : NeighbourValue) → IsDatabase db
      → IsRisingBy Precedes (due_keys retransmit tick db n)
