-- How long the body of a packet is.
use Rattle.std.proofs.Common.{◌≡◌, ◌+◌, ◌*◌, List, length, refl, arith}
use Rattle.ospf_base.specs.declared.ids.RouterId.{RouterId}
use Rattle.ospf_lsa.specs.declared.header.LsaHeader.{LsaHeader}
use Rattle.ospf_packet.specs.declared.body.Hello.{Hello}
use Rattle.ospf_packet.specs.declared.body.Description.{Description}
use Rattle.ospf_packet.specs.declared.entry.RequestEntry.{RequestEntry}
use Rattle.ospf_packet.specs.Headers.{aged_bytes}
use Rattle.ospf_packet.specs.Meaning.{hello, description, request, acknowledgment, packet_body_bytes}
use Rattle.ospf_lsa.specs.Attached.{router_bytes}
use Rattle.ospf_packet.specs.Requests.{request_entry_bytes}
use Rattle.ospf_packet.proofs.EntryLemmas.{length_entries}

pub hello_length : (fields : Hello) (routers : List RouterId) → length (packet_body_bytes (hello fields routers)) ≡ 20 + length routers * 4
hello_length fields routers = omega (arith, length_entries 4 router_bytes (λ r. refl) routers)

pub description_length : (fields : Description) (headers : List LsaHeader) → length (packet_body_bytes (description fields headers)) ≡ 8 + length headers * 20
description_length fields headers = omega (arith, length_entries 20 aged_bytes (λ h. refl) headers)

pub request_length : (entries : List RequestEntry) → length (packet_body_bytes (request entries)) ≡ 0 + length entries * 12
request_length entries = omega (arith, length_entries 12 request_entry_bytes (λ e. refl) entries)

pub acknowledgment_length : (headers : List LsaHeader) → length (packet_body_bytes (acknowledgment headers)) ≡ 0 + length headers * 20
acknowledgment_length headers = omega (arith, length_entries 20 aged_bytes (λ h. refl) headers)
