-- The outputs of a step of a router, or of a part of one.
use Rattle.std.specs.Prelude.{◌≡◌, ℕ, List, [], ◌++◌, Some}
use Rattle.std.specs.List.{All}
use Rattle.ospf_base.specs.declared.ids.Addr.{Addr}
use Rattle.ospf_base.specs.declared.ids.Instance.{Instance}
use Rattle.ospf_base.specs.declared.ids.LsaKey.{LsaKey}
use Rattle.ospf_packet.specs.Meaning.{Meaning}
use Rattle.ospf_packet.specs.PacketOf.{packet_of}

-- a datagram that is sent: out of which link, from which address and to which, its
-- bytes, and the packet that these are
pub record SentValue : Type 0 where
  pub link : ℕ
  pub source : Addr
  pub destination : Addr
  pub bytes : List ℕ
  pub packet : Meaning

-- the bytes of each are read as its packet
abbrev pub AreReadAsSent : List SentValue → Type 0
AreReadAsSent ds = All (λ (d : SentValue). packet_of d.bytes ≡ Some d.packet) ds

-- the datagrams sent, the instances installed from an Update or acknowledged as expired without a
-- copy (13), the LSAs issued, as bytes (12.4), and the keys whose numbering run it ended (12.1.6)
pub record OutputsValue : Type 0 where
  pub sent : List SentValue
  pub taken : List Instance
  pub issued : List (List ℕ)
  pub ended : List LsaKey

-- no output
abbrev pub no_outputs : OutputsValue
no_outputs = record { sent = []; taken = []; issued = []; ended = [] }

-- the outputs of one part and then of the next
abbrev pub then_outputs : OutputsValue → OutputsValue → OutputsValue
then_outputs a b =
    record {
      sent = a.sent ++ b.sent;
      taken = a.taken ++ b.taken;
      issued = a.issued ++ b.issued;
      ended = a.ended ++ b.ended;
    }

-- these datagrams, and nothing else
abbrev pub sends : List SentValue → OutputsValue
sends datagrams = record { sent = datagrams; taken = []; issued = []; ended = [] }
