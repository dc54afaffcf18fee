-- A step of a router: a chain of parts.
use Rattle.std.specs.Prelude.{◌≡◌, ◌++◌, ℕ, zero, suc, Bool, true, false, List, [], ◌∷◌, Option, None, Some, flat_map, map, option_map}
use Rattle.ospf_base.specs.declared.ids.Addr.{Addr}
use Rattle.ospf_base.specs.declared.ids.LsaKey.{LsaKey}
use Rattle.ospf_lsa.specs.declared.header.LsaHeader.{LsaHeader}
use Rattle.ospf_lsdb.specs.Database.{Entry}
use Rattle.ospf_packet.specs.Meaning.{BodyMeaning, hello, description, request, update, acknowledgment, Meaning}
use Rattle.ospf_packet.specs.PacketOf.{packet_of}
use Rattle.ospf_area.specs.Outputs.{OutputsValue, no_outputs, sends, then_outputs, AreReadAsSent}
use Rattle.ospf_area.specs.State.{AreaValue}
use Rattle.ospf_area.specs.declared.flooding.PacketSource.{PacketSource}
use Rattle.ospf_area.specs.Updates.Acks.{direct_out}
use Rattle.ospf_area.specs.Acting.{Becomes}
use Rattle.ospf_area.specs.Updates.Meets.{header_met}
use Rattle.ospf_router.specs.AreaStep.Neighbours.{NeighboursGo, Quiet}
use Rattle.ospf_router.specs.AreaStep.Packets.{Received}
use Rattle.ospf_router.specs.AreaStep.Parts.{LsaPart, IssuePart, ExpiryPart, AgesPart, RemovalPart}

-- what a router is stepped with: a datagram that comes in on a link, a second that
-- passes, or a link that comes or goes
pub data Event : Type 0 where
  Datagram : (link : ℕ) (source destination : Addr) (bytes : List ℕ) → Event
  Tick : Event
  LinkUp : (link : ℕ) → Event
  LinkDown : (link : ℕ) → Event

-- the packet that an event brings, and its link
abbrev pub heard_in : Event → Option Received
heard_in (Datagram link source destination bytes) =
    option_map (λ p. record { link = link; packet = p }) (packet_of bytes)
heard_in Tick = None
heard_in (LinkUp link) = None
heard_in (LinkDown link) = None

-- the parts of a step, in the order in which they come
pub data Part : Type 0 where
  HelloComes : PacketSource → Meaning → Part  -- 10.5
  DdComes : PacketSource → Meaning → Part  -- 10.6
  RequestComes : PacketSource → Meaning → Part  -- 10.7
  LsaComes : PacketSource → List ℕ → Part  -- 13
  HeaderComes : PacketSource → LsaHeader → Part  -- 13.7
  DirectAcknowledgements : PacketSource → Part  -- 13.5
  LinkChanges : (link : ℕ) (up : Bool) → Part  -- 9.3
  Ages : Part  -- 14
  Timers : Part  -- 9.3, 10.3
  Hellos : Part  -- 9.5
  Acknowledgements : Part  -- 13.5
  Repeats : Part  -- 10.8, 10.9, 13.6
  Requests : Part  -- 10.9: LoadingDone, and the Requests that are then due
  Elections : Part  -- 9.4
  OwnLsas : Part  -- 12.4
  Removals : Part  -- 14

-- first this and then that, with the outputs of both
pub record Then (First : OutputsValue → AreaValue → Type 0)
    (Next : AreaValue → OutputsValue → AreaValue → Type 0) (out : OutputsValue) (after : AreaValue)
    : Type 0 where
  pub mid : AreaValue
  pub first_out : OutputsValue
  pub next_out : OutputsValue
  pub first : First first_out mid
  pub next : Next mid next_out after
  pub both : out ≡ then_outputs first_out next_out

-- this many of one kind, one after another
abbrev pub Times : ℕ → (AreaValue → OutputsValue → AreaValue → Type 0) → AreaValue → OutputsValue
    → AreaValue → Type 0
Times zero R before out after = Becomes before no_outputs out after
Times (suc n) R before out after = Then (R before) (Times n R) out after

-- what is flooded may empty a request list
abbrev pub AndRequests : (AreaValue → OutputsValue → AreaValue → Type 0) → AreaValue → OutputsValue
    → AreaValue → Type 0
AndRequests R before out after = Then (R before) Quiet out after

-- an own LSA is issued or flushed (12.4, 14.1)
pub data OwnStep (before : AreaValue) (out : OutputsValue) (after : AreaValue) : Type 0 where
  Issue : (lsa : List ℕ) → AndRequests (IssuePart lsa) before out after → OwnStep before out after
  Flush : (key : LsaKey) (copy : Entry) → AndRequests (ExpiryPart key copy) before out after
      → OwnStep before out after

-- a copy has reached MaxAge (14)
pub record ExpiryStep (before : AreaValue) (out : OutputsValue) (after : AreaValue) : Type 0 where
  pub key : LsaKey
  pub copy : Entry
  pub expires : AndRequests (ExpiryPart key copy) before out after

-- what a part of a step is
abbrev pub IsPart : Part → AreaValue → OutputsValue → AreaValue → Type 0
IsPart (HelloComes f p) before out after = Quiet before out after
-- only here may a neighbour enter Exchange, and only here are requests noted
IsPart (DdComes f p) before out after =
    NeighboursGo (Some (record { link = f.link; packet = p })) before out after
IsPart (RequestComes f p) before out after = Quiet before out after
IsPart (LsaComes f lsa) before out after = LsaPart f lsa before out after
-- by one header of an Acknowledgment (13.7)
IsPart (HeaderComes f h) before out after = Becomes (header_met f h before) no_outputs out after
-- they go to the sender of the Update, as many in a packet as fit (13.5)
IsPart (DirectAcknowledgements f) before out after =
    Becomes (record before { direct = [] }) (sends (direct_out f before)) out after
IsPart (LinkChanges link up) before out after = Quiet before out after
IsPart Ages before out after = (n : ℕ) × Then (AgesPart before) (Times n ExpiryStep) out after
IsPart Timers before out after = Quiet before out after
IsPart Hellos before out after = Quiet before out after
IsPart Acknowledgements before out after = Quiet before out after
IsPart Repeats before out after = Quiet before out after
IsPart Requests before out after = Quiet before out after
IsPart Elections before out after = Quiet before out after
IsPart OwnLsas before out after =
    (n : ℕ)
    × Then (Times n OwnStep before) (λ s. Becomes (record s { heard = [] }) no_outputs) out after
IsPart Removals before out after = RemovalPart before out after

-- the parts, one after another
abbrev pub Chain : List Part → AreaValue → OutputsValue → AreaValue → Type 0
Chain [] before out after = Becomes before no_outputs out after
Chain (part ∷ parts) before out after = Then (IsPart part before) (Chain parts) out after

-- each LSA of an Update, and the Requests that become due by it
abbrev pub lsa_parts : PacketSource → List (List ℕ) → List Part
lsa_parts f lsas = flat_map (λ lsa. LsaComes f lsa ∷ Requests ∷ []) lsas

-- what a packet brings (8.2)
abbrev pub parts_of_packet : PacketSource → Meaning → BodyMeaning → List Part
parts_of_packet f p (hello fields neighbours) = HelloComes f p ∷ []
parts_of_packet f p (description fields headers) = DdComes f p ∷ []
parts_of_packet f p (request entries) = RequestComes f p ∷ []
parts_of_packet f p (update lsas) = lsa_parts f lsas ++ DirectAcknowledgements f ∷ []
parts_of_packet f p (acknowledgment headers) = map (λ h. HeaderComes f h) headers

-- what an event brings
abbrev pub first_parts : Event → List Part
first_parts (Datagram link source destination bytes) =
    elim (packet_of bytes) [
      | None ↦ []
      | Some p ↦
          parts_of_packet (record { link = link; router = p.router; address = source }) p p.body
    ]
first_parts Tick = Ages ∷ Timers ∷ Hellos ∷ Acknowledgements ∷ Repeats ∷ []
first_parts (LinkUp link) = LinkChanges link true ∷ []
first_parts (LinkDown link) = LinkChanges link false ∷ []

-- how every step ends
abbrev pub last_parts : List Part
last_parts = Elections ∷ OwnLsas ∷ Removals ∷ []

-- a step of a router that drops these events: they change nothing, and any other is processed in
-- parts. The bytes of what is sent are read as what was meant
pub data StepLaws (is_dropped : Event → AreaValue → Bool) (event : Event) (before : AreaValue)
    (out : OutputsValue) (after : AreaValue) : Type 0 where
  Drops : is_dropped event before ≡ true → Becomes before no_outputs out after
      → StepLaws is_dropped event before out after
  Takes : is_dropped event before ≡ false → AreReadAsSent out.sent
      → Chain (first_parts event ++ last_parts) before out after
      → StepLaws is_dropped event before out after
