-- Laws: in which order headers are acknowledged, and how they are packed (RFC 2328, section 13.5).
use Rattle.std.specs.Prelude.{◌≡◌, ◌+◌, ◌≤◌, ℕ, List}
use Rattle.std.specs.List.{AllByRecursion, flat_map}
use Rattle.std.specs.List.Sorted.{IsPermutation, IsSortedBy, IsStableBy}
use Rattle.ospf_base.specs.Constants.{ip_header, lsa_header, packet_header}
use Rattle.ospf_lsa.specs.declared.header.LsaHeader.{LsaHeader}
use Rattle.ospf_packet.specs.Meaning.{Meaning, acknowledgment}
use Rattle.ospf_area.specs.Packing.{ArePacked, IsWithin}
use Rattle.ospf_area.specs.Sending.{datagrams, packet_from}
use Rattle.ospf_area.specs.declared.sending.RouterContext.{RouterContext}
use Rattle.ospf_area.specs.declared.sending.Way.{Way}
use Rattle.ospf_area.specs.Updates.Acks.{acks_out, header_precedes, in_order}

-- ---- in order of key

-- the same headers, none after one that it precedes; those of one key stay in the order they came
pub record IsOrdered (headers ordered : List LsaHeader) : Type 0 where
  pub same : IsPermutation headers ordered
  pub rising : IsSortedBy header_precedes ordered
  pub stable : IsStableBy header_precedes headers ordered

-- the law: in order of key, none left out
abbrev pub AcknowledgementsAreOrdered : Type 0
AcknowledgementsAreOrdered = (headers : List LsaHeader) → IsOrdered headers (in_order headers)

-- ---- in packets

-- the Acknowledgment of these headers
abbrev pub acknowledgment_of : RouterContext → List LsaHeader → Meaning
acknowledgment_of own headers = packet_from own (acknowledgment headers)

-- what is sent are these packets: they have the headers in order of key, as
-- many in each as fit, and each fits
pub record AreAcknowledgments (own : RouterContext) (way : Way) (mtu : ℕ) (headers : List LsaHeader)
    (packets : List (List LsaHeader)) : Type 0 where
  pub sent : acks_out own way mtu headers
      ≡ flat_map (λ hs. datagrams way (acknowledgment_of own hs)) packets
  pub packed : ArePacked (acknowledgment_of own) mtu (in_order headers) packets
  pub fit : AllByRecursion (IsWithin (acknowledgment_of own) mtu) packets

-- where one header fits the MTU
abbrev pub AcknowledgementsArePacked : Type 0
AcknowledgementsArePacked =
    (own : RouterContext) (way : Way) (mtu : ℕ) (headers : List LsaHeader)
    → ip_header + packet_header + lsa_header ≤ mtu
    → (packets : List (List LsaHeader)) × AreAcknowledgments own way mtu headers packets
