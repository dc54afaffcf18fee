-- Packets that a router drops because of how their sender, or the router itself, is configured.
use Rattle.std.specs.Prelude.{◌≡◌, ◌⊎◌, ◌==◌, ◌&&◌, ◌||◌, ◌/◌, ◌∷◌, ◌++◌, ℕ, Bool, true, false, not, nat_lt, List, [], Option, None, Some, bit_and, codes, count_by, decimal, if◌then◌else◌, is_some, length, option_map}
use Rattle.std.specs.List.{list_any}
use Rattle.ospf_area.specs.State.{AreaValue}
use Rattle.ospf_base.specs.Bytes.{number_at}
use Rattle.ospf_base.specs.Constants.{packet_header}
use Rattle.ospf_base.specs.Text.{number_text}
use Rattle.ospf_journal.specs.declared.change.DroppedAt.{DroppedAt}
use Rattle.ospf_notes.specs.contracts.misfits.MisfitPartialEq.TheImpl.{eq-value}
use Rattle.ospf_notes.specs.contracts.misfits.TopicPartialEq.TheImpl as topic
use Rattle.ospf_notes.specs.declared.misfits.Flaw.{Flaw}
use Rattle.ospf_notes.specs.declared.misfits.Flaw.TheVariants.{Password, Digest, Fault}
use Rattle.ospf_notes.specs.declared.misfits.Misfit.{Misfit}
use Rattle.ospf_notes.specs.declared.misfits.Topic.{Topic}
use Rattle.ospf_packet.specs.Packet.{IsFirstPacketFault, IsPacket}
use Rattle.ospf_packet.specs.PacketOf.{packet_of}
use Rattle.ospf_packet.specs.Text.{packet_fault_text}
use Rattle.ospf_packet.specs.declared.fault.PacketFault.{PacketFault}
use Rattle.ospf_packet.specs.declared.fault.PacketFault.TheVariants as packet
use Rattle.ospf_router.specs.AreaStep.Text.{dropped_text}
use Rattle.ospf_router.specs.declared.step.dropped.Dropped.{Dropped}
use Rattle.ospf_router.specs.declared.step.dropped.Dropped.TheVariants as dropped
use Rattle.ospf_views.specs.Drops.{detail_words, dropped_detail}
use Rattle.ospf_views.specs.declared.detail.Detail.{Detail}
use Rattle.ospf_views.specs.declared.detail.Detail.TheVariants as detail

-- ---- one packet

-- why bytes are not a packet, if they are not (RFC 2328, section 8.2)
abbrev pub HasPacketFault : List ℕ → Option PacketFault → Type 0
HasPacketFault packet None = IsPacket packet
HasPacketFault packet (Some fault) = IsFirstPacketFault packet fault

-- the AuType in the header (RFC 2328, appendix A.3.1); 0 if the bytes are too few to have one
abbrev pub au_type : List ℕ → ℕ
au_type packet = if nat_lt (length packet) packet_header then 0 else number_at 14 2 packet

-- by the AuType, a password (1, appendix D) or a cryptographic digest (2; 3 in RFC 7474), else this
-- fault
abbrev pub typed_flaw : ℕ → PacketFault → Flaw
typed_flaw au fault =
    if au == 1 then Password else if (au == 2 || au == 3) then Digest else Fault fault

-- authentication, if the AuType says so: a digest makes the bytes longer than the length field
-- says, and leaves the checksum 0 (appendix D.4.3); any other fault unchanged
abbrev pub flaw_of : ℕ → PacketFault → Flaw
flaw_of au packet.Short = Fault packet.Short
flaw_of au packet.Version = Fault packet.Version
flaw_of au packet.Kind = Fault packet.Kind
flaw_of au packet.Length = typed_flaw au packet.Length
flaw_of au packet.Sum = typed_flaw au packet.Sum
flaw_of au packet.Auth = typed_flaw au packet.Auth
flaw_of au packet.Body = Fault packet.Body
flaw_of au packet.TooLong = Fault packet.TooLong

-- a cause that lasts as long as the configuration of the sender and the router does not change:
-- bytes that are not a packet, a packet from another area, with the router's own Router ID or from
-- another network, a Hello that does not agree, and a Database Description with too large an MTU
-- (8.2, 10.5 and 10.6)
abbrev pub is_lasting : Dropped → Option Flaw → Option Detail → Bool
is_lasting dropped.Packet flaw field = is_some flaw
is_lasting dropped.Area flaw field = true
is_lasting dropped.OwnPacket flaw field = true
is_lasting dropped.Destination flaw field = false
is_lasting dropped.Subnet flaw field = true
is_lasting dropped.HelloMismatch flaw field = true
is_lasting dropped.NoNeighbour flaw field = false
is_lasting dropped.WrongRouter flaw field = false
is_lasting dropped.State flaw field = is_some field

-- what is reported of a dropped packet, if its cause lasts
abbrev pub misfit_of : DroppedAt → Option Flaw → Option Detail → Option Misfit
misfit_of at flaw field =
    if is_lasting at.cause flaw field
    then Some (record {
      link = at.link;
      source = at.source;
      cause = at.cause;
      flaw = flaw;
      detail = field;
    })
    else None

-- that, from the bytes of a packet that a router dropped
abbrev pub IsMisfit : Option AreaValue → DroppedAt → List ℕ → Option Misfit → Type 0
IsMisfit area at packet misfit =
    (fault : Option PacketFault) × HasPacketFault packet fault
    × (misfit
    ≡ misfit_of at (option_map (flaw_of (au_type packet)) fault)
    (dropped_detail area at.link at.cause (packet_of packet)))

-- ---- what is reported

-- how the sender authenticates, or another fault
abbrev pub flaw_text : Flaw → List ℕ
flaw_text Password = codes "simple password authentication there, none here"
flaw_text Digest = codes "cryptographic authentication there, none here"
flaw_text (Fault fault) = packet_fault_text fault

-- why the router does not accept it as a packet, if it does not
abbrev pub flaw_words : Option Flaw → List ℕ
flaw_words None = []
flaw_words (Some flaw) = codes ": " ++ flaw_text flaw

-- without the E bit in the Options the sender's area is a stub area (RFC 2328, section 9.5), or,
-- with the N bit, 8, an NSSA (RFC 3101, section 2.4)
abbrev pub area_kind_words : Detail → List ℕ
area_kind_words (detail.Area there here) = []
area_kind_words (detail.HelloInterval there here) = []
area_kind_words (detail.DeadInterval there here) = []
area_kind_words (detail.Options there) =
    if bit_and there 8 == 8
    then codes ": NSSA there, normal area here"
    else codes ": stub area there, normal area here"
area_kind_words (detail.Mask there here) = []
area_kind_words (detail.Mtu there here) = []

-- the same, if a field explains the cause
abbrev pub area_words : Option Detail → List ℕ
area_words None = []
area_words (Some field) = area_kind_words field

-- and the field itself, with both values
abbrev pub field_words : Option Detail → List ℕ
field_words field = area_words field ++ detail_words field

-- the message about a misfit, with the name of the router's file
abbrev pub misfit_text : List ℕ → Misfit → List ℕ
misfit_text file m =
    file ++ codes ": link " ++ decimal m.link ++ codes ": what " ++ number_text m.source.0
    ++ codes " sends is dropped: " ++ dropped_text m.cause ++ flaw_words m.flaw
    ++ field_words m.detail

-- ---- when

-- the ticks of a run are divided into periods of this many
abbrev pub period_ticks : ℕ
period_ticks = 600

-- this many with one cause on one link are reported in a period
abbrev pub most_alike : ℕ
most_alike = 8

-- the link and the cause of a misfit
abbrev pub topic_of : Misfit → Topic
topic_of m = record { link = m.link; cause = m.cause; flaw = m.flaw }

-- one link and one cause
abbrev pub is_alike : Misfit → Misfit → Bool
is_alike one other = topic.eq-value.it (topic_of one) (topic_of other)

-- the bytes that arrived last, if there was room for them; a period, and what was reported in it
pub record MisfitsValue : Type 0 where
  pub packet : Option (List ℕ)
  pub period : ℕ
  pub told : List Misfit

-- what was reported in the period of this tick
abbrev pub told_at : ℕ → MisfitsValue → List Misfit
told_at tick m = if m.period == tick / period_ticks then m.told else []

-- no equal misfit was reported in the period, and few that are alike
abbrev pub is_new_misfit : List Misfit → Misfit → Bool
is_new_misfit told m =
    not (list_any (λ t. eq-value.it t m) told)
    && nat_lt (count_by (λ t. is_alike t m) told) most_alike

-- what is reported at a tick after a step that dropped this, for the packet that arrived last: a
-- misfit that is new in the period; if memory runs out it is reported again
pub data TellsMisfit (area : Option AreaValue) (tick : ℕ) (before : MisfitsValue)
    (dropped : Option DroppedAt) (after : MisfitsValue) : Option Misfit → Type 0 where
  none_dropped : dropped ≡ None → after ≡ before → TellsMisfit area tick before dropped after None
  not_kept : before.packet ≡ None → after ≡ before
      → TellsMisfit area tick before dropped after None
  passes : (at : DroppedAt) (packet : List ℕ) → dropped ≡ Some at → before.packet ≡ Some packet
      → IsMisfit area at packet None → after ≡ before
      → TellsMisfit area tick before dropped after None
  is_old : (at : DroppedAt) (packet : List ℕ) (m : Misfit) → dropped ≡ Some at
      → before.packet ≡ Some packet → IsMisfit area at packet (Some m)
      → is_new_misfit (told_at tick before) m ≡ false → after.packet ≡ before.packet
      → after.period ≡ tick / period_ticks → after.told ≡ told_at tick before
      → TellsMisfit area tick before dropped after None
  is_told : (at : DroppedAt) (packet : List ℕ) (m : Misfit) → dropped ≡ Some at
      → before.packet ≡ Some packet → IsMisfit area at packet (Some m)
      → is_new_misfit (told_at tick before) m ≡ true → after.packet ≡ before.packet
      → after.period ≡ tick / period_ticks
      → (after.told ≡ told_at tick before ++ m ∷ []) ⊎ (after.told ≡ told_at tick before)
      → TellsMisfit area tick before dropped after (Some m)
