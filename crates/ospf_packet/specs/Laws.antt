-- Laws on packets.
use Rattle.std.specs.Prelude.{◌≡◌, ◌↔◌, ◌≤◌, ℕ, List, Some, length}
use Rattle.ospf_base.specs.Bytes.{AreBytes}
use Rattle.ospf_lsa.specs.Lsa.{IsLsa, with_age}
use Rattle.ospf_lsa.specs.Lsa as lsa
use Rattle.ospf_lsa.specs.declared.fault.LsaFault.{LsaFault}
use Rattle.ospf_packet.specs.Meaning.{Meaning, MeaningFits, packet_bytes}
use Rattle.ospf_packet.specs.PacketOf.{packet_of}
use Rattle.ospf_packet.specs.Spelling.{SpellsPacket}

-- bytes are read as a packet exactly where they spell it
abbrev pub ReadsSpelledPackets : Type 0
ReadsSpelledPackets =
    (m : Meaning) (packet : List ℕ) → AreBytes packet
    → (packet_of packet ≡ Some m) ↔ (MeaningFits m × SpellsPacket m packet)

-- what was written is read again
abbrev pub ReadsWhatWasWritten : Type 0
ReadsWhatWasWritten = (m : Meaning) → MeaningFits m → packet_of (packet_bytes m) ≡ Some m

-- bytes are an LSA, or have their first fault, at any age alike
pub record SameAtAnyAge (age : ℕ) (bytes : List ℕ) : Type 0 where
  pub valid : IsLsa bytes ↔ IsLsa (with_age age bytes)
  pub fault : (f : LsaFault) → lsa.IsFirstFault bytes f ↔ lsa.IsFirstFault (with_age age bytes) f

-- the law: bytes are an LSA or none at any age alike
abbrev pub AgeChangesNoVerdict : Type 0
AgeChangesNoVerdict = (age : ℕ) (bytes : List ℕ) → 2 ≤ length bytes → SameAtAnyAge age bytes
