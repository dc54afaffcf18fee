-- A packet spells what is read of it, each byte.
use Rattle.std.proofs.Common.{◌≡◌, ℕ, zero, suc, ◌*◌, ◌-◌, ◌/◌, ◌≤◌, List, [], ◌∷◌, ◌++◌, length, map, take, drop, Some, refl, sym, ap, subst, ◌∙◌, inl, inr, arith}
use Rattle.std.specs.Prelude.{◌↔◌}
use Rattle.std.specs.List.{flat_map, AllByRecursion}
use Rattle.std.proofs.lemmas.List.{take-append-drop, length-drop}
use Rattle.ospf_base.specs.Bytes.{number_at, number_bytes, AreBytes}
use Rattle.ospf_base.specs.Sums.{packet_checksum}
use Rattle.ospf_base.specs.declared.ids.RouterId.{RouterId}
use Rattle.ospf_lsa.specs.Header.{header_of}
use Rattle.ospf_lsa.specs.declared.header.LsaHeader.{LsaHeader}
use Rattle.ospf_packet.specs.Entries.{packet_entries_in}
use Rattle.ospf_packet.specs.Fields.{hello_at, hello_bytes, description_at, description_bytes}
use Rattle.ospf_packet.specs.Headers.{headers_in, AgedFits}
use Rattle.ospf_packet.specs.Meaning.{Meaning, packet_body_type, head_bytes, PacketBodyFits, MeaningFits}
use Rattle.ospf_lsa.specs.Attached.{router_bytes, routers_in, RouterFits}
use Rattle.ospf_packet.proofs.Routers.{router_at, routers_entries}
use Rattle.ospf_packet.specs.Packet.{IsBody, IsPacket, body_at, meaning_of, packet_type, body_of}
use Rattle.ospf_packet.specs.PacketOf.{packet_of}
use Rattle.ospf_packet.proofs.PacketLaws.{packet_decided, packet_of-is, packet_of-not}
use Rattle.ospf_packet.specs.Requests.{request_entry_at, request_entry_bytes, RequestEntryFits}
use Rattle.ospf_packet.specs.Slices.{IsSlice, lsas_bytes, AreSlices, slices_in}
use Rattle.ospf_packet.proofs.SliceLaws.{slices_back}
use Rattle.ospf_packet.specs.Spelling.{HeaderEntry, header_entry_bytes, HeaderEntryFits, SpellHeaders, SpellBody, SpellsPacket}
use Rattle.ospf_packet.specs.declared.fault.PacketFault.TheVariants as fault
use Rattle.ospf_packet.proofs.Cells.{hello_again, hello_fits, description_again, description_fits, router_again, router_fits, entry_again, entry_fits, header_entry_at, header_again, aged_fits, header_entry_fits, head_again}
use Rattle.ospf_packet.proofs.EntryLemmas.{AreBytes-drop, entries_again, fits_again}
use Rattle.ospf_packet.proofs.RoundTrip.{body_length_is, spelled_is_read}

entry_headers : (n : ℕ) (bytes : List ℕ) → map (λ (e : HeaderEntry). e.header) (packet_entries_in 20 header_entry_at n bytes) ≡ headers_in n bytes
entry_headers zero bytes = refl
entry_headers (suc n) bytes = ap (λ (t : List LsaHeader). header_of bytes ∷ t) (entry_headers n (drop 20 bytes))

headers_again : (n : ℕ) (bytes : List ℕ) → AreBytes bytes → length bytes ≡ n * 20 → SpellHeaders (headers_in n bytes) bytes
headers_again n bytes fits len = record {
  entries = packet_entries_in 20 header_entry_at n bytes;
  are = entry_headers n bytes;
  fit = fits_again 20 header_entry_at HeaderEntryFits header_entry_fits n bytes fits len;
  spelled = sym (entries_again 20 header_entry_at header_entry_bytes header_again n bytes fits len);
}

slices_of : (n : ℕ) (bytes : List ℕ) (are : AreSlices n bytes) → slices_in n bytes ≡ are.slices
slices_of n bytes are =
    ap (slices_in n) are.spelled ∙ ap (λ (k : ℕ). slices_in k (lsas_bytes are.slices)) (sym are.counted) ∙ slices_back are.slices are.each

-- a body in two parts
in_two : (n : ℕ) (body front back : List ℕ) → front ≡ take n body → back ≡ drop n body → body ≡ front ++ back
in_two n body front back p q = sym (take-append-drop n body) ∙ ap (λ (t : List ℕ). t ++ drop n body) (sym p) ∙ ap (λ (t : List ℕ). front ++ t) (sym q)

-- the body of a packet of this type spells what is read of it
record Again (kind : ℕ) (body : List ℕ) : Type 0 where
  type_is : packet_body_type (body_at kind body) ≡ kind
  spelled : SpellBody (body_at kind body) body
  fits : PacketBodyFits (body_at kind body)

body_again : (kind : ℕ) (body : List ℕ) → AreBytes body → 1 ≤ kind → kind ≤ 5 → IsBody kind body → Again kind body
body_again zero body fits low high is = absurd (omega arith)
body_again (suc zero) body fits low high is =
    let h = is.hello_is refl in
    let n = (length body - 20) / 4 in
    let rest = AreBytes-drop 20 body fits in
    let len : length (drop 20 body) ≡ n * 4 = omega (arith, h.0, h.1, length-drop 20 body) in
    let same = routers_entries n (drop 20 body) len in
    record {
      type_is = refl;
      spelled = in_two 20 body (hello_bytes (hello_at body)) (flat_map router_bytes (routers_in (drop 20 body)))
          (hello_again body fits h.0) (ap (flat_map router_bytes) same ∙ entries_again 4 router_at router_bytes router_again n (drop 20 body) rest len);
      fits = (hello_fits body fits, subst (λ (rs : List RouterId). AllByRecursion RouterFits rs) (sym same) (fits_again 4 router_at RouterFits router_fits n (drop 20 body) rest len));
    }
body_again (suc (suc zero)) body fits low high is =
    let d = is.description_is refl in
    let n = (length body - 8) / 20 in
    let rest = AreBytes-drop 8 body fits in
    let len : length (drop 8 body) ≡ n * 20 = omega (arith, d.0, d.1, length-drop 8 body) in
    record {
      type_is = refl;
      spelled = record {
        listed = drop 8 body;
        headers_spelled = headers_again n (drop 8 body) rest len;
        spelled = in_two 8 body (description_bytes (description_at body)) (drop 8 body) (description_again body fits d.0) refl;
      };
      fits = (description_fits body fits, fits_again 20 header_of AgedFits aged_fits n (drop 8 body) rest len);
    }
body_again (suc (suc (suc zero))) body fits low high is =
    let whole = is.request_is refl in
    let n = length body / 12 in
    let len : length body ≡ n * 12 = omega arith in
    record {
      type_is = refl;
      spelled = sym (entries_again 12 request_entry_at request_entry_bytes entry_again n body fits len);
      fits = fits_again 12 request_entry_at RequestEntryFits entry_fits n body fits len;
    }
body_again (suc (suc (suc (suc zero)))) body fits low high is =
    let u = is.update_is refl in
    let n = number_at 0 4 body in
    let same = slices_of n (drop 4 body) u.1 in
    let count : length (slices_in n (drop 4 body)) ≡ n = ap length same ∙ u.1.counted in
    record {
      type_is = refl;
      spelled = in_two 4 body (number_bytes 4 (length (slices_in n (drop 4 body)))) (lsas_bytes (slices_in n (drop 4 body)))
          (ap (number_bytes 4) count ∙ router_again body fits u.0) (ap lsas_bytes same ∙ sym u.1.spelled);
      fits = subst (λ (t : List (List ℕ)). AllByRecursion IsSlice t) (sym same) u.1.each;
    }
body_again (suc (suc (suc (suc (suc zero))))) body fits low high is =
    let whole = is.acknowledgment_is refl in
    let n = length body / 20 in
    let len : length body ≡ n * 20 = omega arith in
    record {
      type_is = refl;
      spelled = headers_again n body fits len;
      fits = fits_again 20 header_of AgedFits aged_fits n body fits len;
    }
body_again (suc (suc (suc (suc (suc (suc kind)))))) body fits low high is = absurd (omega arith)

module _ (packet : List ℕ) (fits : AreBytes packet) (is : IsPacket packet) where
  again : Again (packet_type packet) (body_of packet)
  again = body_again (packet_type packet) (body_of packet) (AreBytes-drop 24 packet fits) (is fault.Kind).0 (is fault.Kind).1 (is fault.Body)

  spelled : SpellsPacket (meaning_of packet) packet
  spelled = record {
    long = is fault.Short;
    head =
        head_again packet fits (omega (arith, is fault.Short)) (is fault.Version) (length packet) (packet_checksum packet) (is fault.Length) (is fault.Sum) (is fault.Auth)
        ∙ ap (λ (k : ℕ). head_bytes k (length packet) (meaning_of packet).router (meaning_of packet).area ++ number_bytes 2 (packet_checksum packet) ++ (0 ∷ 0 ∷ [])) (sym again.type_is);
    body = again.spelled;
  }

  fits_fields : MeaningFits (meaning_of packet)
  fits_fields =
      let f4 = fits 4 in let f5 = fits 5 in let f6 = fits 6 in let f7 = fits 7 in
      let f8 = fits 8 in let f9 = fits 9 in let f10 = fits 10 in let f11 = fits 11 in
      record {
        router = omega arith;
        area = omega arith;
        body = again.fits;
        short = omega (arith, body_length_is (body_at (packet_type packet) (body_of packet)) (body_of packet) again.spelled, length-drop 24 packet, is fault.Short, is fault.TooLong);
      }

-- what is read is of a packet
record IsReadAs (packet : List ℕ) (m : Meaning) : Type 0 where
  valid : IsPacket packet
  means : meaning_of packet ≡ m

read_as : (packet : List ℕ) (m : Meaning) → packet_of packet ≡ Some m → IsReadAs packet m
read_as packet m e = elim (packet_decided packet) [
  | inl is ↦ (let some = packet_of-is packet is in record { valid = is; means = cc })
  | inr not ↦ (let none = packet_of-not packet not in absurd (cc))
]

read_is_spelled : (m : Meaning) (packet : List ℕ) → AreBytes packet → packet_of packet ≡ Some m → MeaningFits m × SpellsPacket m packet
read_is_spelled m packet fits e =
    let as_read = read_as packet m e in
    subst (λ (x : Meaning). MeaningFits x × SpellsPacket x packet) as_read.means (fits_fields packet fits as_read.valid, spelled packet fits as_read.valid)

pub reads_exactly : (m : Meaning) (packet : List ℕ) → AreBytes packet → (packet_of packet ≡ Some m) ↔ (MeaningFits m × SpellsPacket m packet)
reads_exactly m packet fits = (read_is_spelled m packet fits, λ p. spelled_is_read m packet p.0 p.1)
