-- Bytes that spell a packet are one, and are read as what they spell.
use Rattle.std.proofs.Common.{◌≡◌, ℕ, zero, suc, ◌+◌, ◌*◌, ◌-◌, ◌/◌, ◌%◌, ◌<◌, ◌≤◌, List, [], ◌∷◌, ◌++◌, length, get_or, take, drop, Some, refl, sym, ap, subst, ◌∙◌, arith}
use Rattle.std.specs.List.{flat_map, AllByRecursion}
use Rattle.std.proofs.lemmas.List.{length-append, length-drop, get_or-take}
use Rattle.ospf_base.specs.Bytes.{number_at, number_bytes}
use Rattle.ospf_base.specs.Sums.{packet_checksum}
use Rattle.ospf_base.specs.declared.ids.RouterId.{RouterId}
use Rattle.ospf_lsa.specs.declared.header.LsaHeader.{LsaHeader}
use Rattle.ospf_packet.specs.Fields.{description_bytes, DescriptionFits}
use Rattle.ospf_packet.specs.Headers.{aged_bytes, headers_in}
use Rattle.ospf_packet.specs.Meaning.{BodyMeaning, hello, description, request, update, acknowledgment, Meaning, packet_body_type, packet_body_bytes, head_bytes, bytes_with_sum, packet_bytes, PacketBodyFits, MeaningFits}
use Rattle.ospf_lsa.specs.Attached.{router_bytes, routers_in, RouterFits}
use Rattle.ospf_packet.proofs.Routers.{router_at, routers_entries}
use Rattle.ospf_packet.specs.Packet.{IsBody, IsPacket, body_at, meaning_of, packet_type}
use Rattle.ospf_packet.specs.PacketOf.{packet_of}
use Rattle.ospf_packet.proofs.PacketLaws.{packet_of-is}
use Rattle.ospf_packet.specs.Requests.{request_entry_at, request_entry_bytes, RequestEntryFits, requests_in}
use Rattle.ospf_packet.specs.Slices.{IsSlice, lsas_bytes, AreSlices, slices_in}
use Rattle.ospf_packet.proofs.SliceLaws.{slices_back}
use Rattle.ospf_packet.specs.Spelling.{SpellHeaders, SpellBody, SpellsPacket}
use Rattle.ospf_packet.specs.declared.body.Hello.{Hello}
use Rattle.ospf_packet.specs.declared.body.Description.{Description}
use Rattle.ospf_packet.specs.declared.fault.PacketFault.TheVariants as fault
use Rattle.ospf_packet.proofs.BodyLengths.{hello_length, description_length, request_length, acknowledgment_length}
use Rattle.ospf_packet.proofs.EntryLemmas.{entries_back, length_entries}
use Rattle.ospf_packet.proofs.FieldLemmas.{hello_back, description_back, router_back, entry_back}
use Rattle.ospf_packet.proofs.HeaderLists.{spelled_length, headers_back, aged_spelled}

hello_same : (f f' : Hello) (ns ns' : List RouterId) → f ≡ f' → ns ≡ ns' → hello f ns ≡ hello f' ns'
hello_same f f' ns ns' p q = cc

description_same : (f f' : Description) (hs hs' : List LsaHeader) → f ≡ f' → hs ≡ hs' → description f hs ≡ description f' hs'
description_same f f' hs hs' p q = cc

-- slices are of 20 bytes at least
slices_long : (lsas : List (List ℕ)) → AllByRecursion IsSlice lsas → 20 * length lsas ≤ length (lsas_bytes lsas)
slices_long [] each = omega arith
slices_long (lsa ∷ lsas) each = omega (arith, slices_long lsas each.1, each.0.long, length-append lsa (lsas_bytes lsas))

-- a body is as long as what is written of it
pub body_length_is : (b : BodyMeaning) (bytes : List ℕ) → SpellBody b bytes → length bytes ≡ length (packet_body_bytes b)
body_length_is (hello f ns) bytes s = ap length s
body_length_is (description f hs) bytes s =
    let listed = spelled_length hs s.listed s.headers_spelled in
    omega (arith, ap length s.spelled, description_length f hs)
body_length_is (request es) bytes s = ap length s
body_length_is (update lsas) bytes s = ap length s
body_length_is (acknowledgment hs) bytes s = omega (arith, spelled_length hs bytes s, acknowledgment_length hs)

-- a body is one of its type alone
only_hello : (body : List ℕ) → 20 ≤ length body → (length body - 20) % 4 ≡ 0 → IsBody 1 body
only_hello body long whole = record {
  hello_is = λ _. (long, whole);
  description_is = λ e. absurd (omega (arith, e));
  request_is = λ e. absurd (omega (arith, e));
  update_is = λ e. absurd (omega (arith, e));
  acknowledgment_is = λ e. absurd (omega (arith, e));
}

only_description : (body : List ℕ) → 8 ≤ length body → (length body - 8) % 20 ≡ 0 → IsBody 2 body
only_description body long whole = record {
  hello_is = λ e. absurd (omega (arith, e));
  description_is = λ _. (long, whole);
  request_is = λ e. absurd (omega (arith, e));
  update_is = λ e. absurd (omega (arith, e));
  acknowledgment_is = λ e. absurd (omega (arith, e));
}

only_request : (body : List ℕ) → length body % 12 ≡ 0 → IsBody 3 body
only_request body whole = record {
  hello_is = λ e. absurd (omega (arith, e));
  description_is = λ e. absurd (omega (arith, e));
  request_is = λ _. whole;
  update_is = λ e. absurd (omega (arith, e));
  acknowledgment_is = λ e. absurd (omega (arith, e));
}

only_update : (body : List ℕ) → 4 ≤ length body → AreSlices (number_at 0 4 body) (drop 4 body) → IsBody 4 body
only_update body long are = record {
  hello_is = λ e. absurd (omega (arith, e));
  description_is = λ e. absurd (omega (arith, e));
  request_is = λ e. absurd (omega (arith, e));
  update_is = λ _. (long, are);
  acknowledgment_is = λ e. absurd (omega (arith, e));
}

only_acknowledgment : (body : List ℕ) → length body % 20 ≡ 0 → IsBody 5 body
only_acknowledgment body whole = record {
  hello_is = λ e. absurd (omega (arith, e));
  description_is = λ e. absurd (omega (arith, e));
  request_is = λ e. absurd (omega (arith, e));
  update_is = λ e. absurd (omega (arith, e));
  acknowledgment_is = λ _. whole;
}

-- bytes that are read as this body of its type
record Reads (b : BodyMeaning) (bytes : List ℕ) : Type 0 where
  is : IsBody (packet_body_type b) bytes
  means : body_at (packet_body_type b) bytes ≡ b

description_reads : (f : Description) (hs : List LsaHeader) (fields : DescriptionFits f) (listed : List ℕ) → SpellHeaders hs listed
    → Reads (description f hs) (description_bytes f ++ listed)
description_reads f hs fields listed s =
    let len = spelled_length hs listed s in
    let whole : length (description_bytes f ++ listed) ≡ 8 + length listed = omega arith in
    let count : (length (description_bytes f ++ listed) - 8) / 20 ≡ length hs = omega arith in
    let headers = ap (λ (n : ℕ). headers_in n listed) count ∙ headers_back hs listed s in
    record {
      is = only_description (description_bytes f ++ listed) (omega arith) (omega arith);
      means = description_same _ _ _ _ (description_back f listed fields) headers;
    }

-- bytes that spell a body are one of its type, and are read as it
body_back : (b : BodyMeaning) (bytes : List ℕ) → PacketBodyFits b → 24 + length (packet_body_bytes b) ≤ 16384 → SpellBody b bytes → Reads b bytes
body_back (hello f ns) bytes fits short s =
    let len = hello_length f ns in
    let four = length_entries 4 router_bytes (λ r. refl) ns in
    let listed : routers_in (drop 20 (packet_body_bytes (hello f ns))) ≡ ns = routers_entries (length ns) (flat_map router_bytes ns) four ∙ entries_back 4 router_at router_bytes RouterFits (λ r. refl) router_back ns fits.1 in
    subst (λ (b : List ℕ). Reads (hello f ns) b) (sym s) (record {
      is = only_hello (packet_body_bytes (hello f ns)) (omega arith) (omega arith);
      means = hello_same _ _ _ _ (hello_back f (flat_map router_bytes ns) fits.0) listed;
    })
body_back (description f hs) bytes fits short s =
    subst (λ (b : List ℕ). Reads (description f hs) b) (sym s.spelled) (description_reads f hs fits.0 s.listed s.headers_spelled)
body_back (request es) bytes fits short s =
    let len = request_length es in
    let count : length (packet_body_bytes (request es)) / 12 ≡ length es = omega arith in
    let listed = ap (λ (n : ℕ). requests_in n (packet_body_bytes (request es))) count ∙ entries_back 12 request_entry_at request_entry_bytes RequestEntryFits (λ e. refl) entry_back es fits in
    subst (λ (b : List ℕ). Reads (request es) b) (sym s) (record { is = only_request (packet_body_bytes (request es)) (omega arith); means = ap request listed })
body_back (update lsas) bytes fits short s =
    let few = slices_long lsas fits in
    let count : number_at 0 4 (packet_body_bytes (update lsas)) ≡ length lsas = omega arith in
    subst (λ (b : List ℕ). Reads (update lsas) b) (sym s) (record {
      is = only_update (packet_body_bytes (update lsas)) (omega arith) (record { slices = lsas; counted = sym count; each = fits; spelled = refl });
      means = ap update (ap (λ (n : ℕ). slices_in n (lsas_bytes lsas)) count ∙ slices_back lsas fits);
    })
body_back (acknowledgment hs) bytes fits short s =
    let len = spelled_length hs bytes s in
    let count : length bytes / 20 ≡ length hs = omega arith in
    let headers = ap (λ (n : ℕ). headers_in n bytes) count ∙ headers_back hs bytes s in
    record { is = only_acknowledgment bytes (omega arith); means = ap acknowledgment headers }

type_known : (b : BodyMeaning) → (1 ≤ packet_body_type b) × (packet_body_type b ≤ 5)
type_known (hello f ns) = (omega arith, omega arith)
type_known (description f hs) = (omega arith, omega arith)
type_known (request es) = (omega arith, omega arith)
type_known (update lsas) = (omega arith, omega arith)
type_known (acknowledgment hs) = (omega arith, omega arith)

meaning_made : RouterId → ℕ → BodyMeaning → Meaning
meaning_made r a b = record { router = r; area = record { 0 = a }; body = b }

meaning_same : (r r' a a' : ℕ) (b b' : BodyMeaning) → r ≡ r' → a ≡ a' → b ≡ b' → meaning_made (record { 0 = r }) a b ≡ meaning_made (record { 0 = r' }) a' b'
meaning_same r r' a a' b b' p q s = cc

checksum_small : (packet : List ℕ) → packet_checksum packet < 65536
checksum_small packet = omega arith

two_is : (n : ℕ) → n < 65536 → (n / 256 % 256) * 256 + (n % 256 * 1 + 0) ≡ n
two_is n lt = omega arith

-- a number in front is read there
number_in_front : (at width n : ℕ) (bytes : List ℕ) → at + width ≤ n → number_at at width (take n bytes) ≡ number_at at width bytes
number_in_front at zero n bytes within = refl
number_in_front at (suc w) n bytes within =
    let here = get_or-take n bytes at 0 (omega arith) in
    let there = number_in_front (suc at) w n bytes (omega arith) in
    rw (here, there) refl

module _ (m : Meaning) (packet : List ℕ) (fits : MeaningFits m) (s : SpellsPacket m packet) where
  abbrev head : List ℕ
  head = head_bytes (packet_body_type m.body) (length packet) m.router m.area ++ number_bytes 2 (packet_checksum packet) ++ (0 ∷ 0 ∷ [])

  same_length : length packet ≡ 24 + length (packet_body_bytes m.body)
  same_length =
      let l = s.long in
      omega (arith, body_length_is m.body (drop 24 packet) s.body, length-drop 24 packet)

  in_head : (at width : ℕ) → at + width ≤ 16 → number_at at width packet ≡ number_at at width head
  in_head at width within = sym (number_in_front at width 16 packet within) ∙ ap (number_at at width) s.head

  byte_in_head : (at : ℕ) → at < 16 → get_or packet at 0 ≡ get_or head at 0
  byte_in_head at within = sym (get_or-take 16 packet at 0 within) ∙ ap (λ (t : List ℕ). get_or t at 0) s.head

  body : Reads m.body (drop 24 packet)
  body = body_back m.body (drop 24 packet) fits.body fits.short s.body

  kind : packet_type packet ≡ packet_body_type m.body
  kind = byte_in_head 1 (omega arith)

  is_packet : IsPacket packet
  is_packet fault.TooLong = let l = same_length in let short = fits.short in omega arith
  is_packet fault.Short = s.long
  is_packet fault.Version = byte_in_head 0 (omega arith)
  is_packet fault.Kind = subst (λ (t : ℕ). (1 ≤ t) × (t ≤ 5)) (sym kind) (type_known m.body)
  is_packet fault.Length = let l = same_length in let short = fits.short in in_head 2 2 (omega arith) ∙ two_is (length packet) (omega arith)
  is_packet fault.Sum = in_head 12 2 (omega arith) ∙ two_is (packet_checksum packet) (checksum_small packet)
  is_packet fault.Auth = in_head 14 2 (omega arith)
  is_packet fault.Body = subst (λ (t : ℕ). IsBody t (drop 24 packet)) (sym kind) body.is

  means : meaning_of packet ≡ m
  unfolding meaning_made
  means =
      let r = fits.router in
      let a = fits.area in
      let router : number_at 4 4 head ≡ m.router.0 = omega arith in
      let area : number_at 8 4 head ≡ m.area.0 = omega arith in
      meaning_same (number_at 4 4 packet) m.router.0 (number_at 8 4 packet) m.area.0 (body_at (packet_type packet) (drop 24 packet)) m.body
      (in_head 4 4 (omega arith) ∙ router) (in_head 8 4 (omega arith) ∙ area) (ap (λ (t : ℕ). body_at t (drop 24 packet)) kind ∙ body.means)

  pub spelled_is_read : packet_of packet ≡ Some m
  spelled_is_read = packet_of-is packet is_packet ∙ ap Some means

-- ---- what was written

body_spelled : (b : BodyMeaning) → PacketBodyFits b → SpellBody b (packet_body_bytes b)
body_spelled (hello f ns) fits = refl
body_spelled (description f hs) fits = record { listed = flat_map aged_bytes hs; headers_spelled = aged_spelled hs fits.1; spelled = refl }
body_spelled (request es) fits = refl
body_spelled (update lsas) fits = refl
body_spelled (acknowledgment hs) fits = aged_spelled hs fits

written_is_spelled : (m : Meaning) → MeaningFits m → SpellsPacket m (packet_bytes m)
written_is_spelled m fits = record {
  long = omega arith;
  head = ap (λ (n : ℕ). head_bytes (packet_body_type m.body) n m.router m.area ++ number_bytes 2 (packet_checksum (bytes_with_sum m 0)) ++ (0 ∷ 0 ∷ [])) (omega arith);
  body = body_spelled m.body fits.body;
}

pub read_again : (m : Meaning) → MeaningFits m → packet_of (packet_bytes m) ≡ Some m
read_again m fits = spelled_is_read m (packet_bytes m) fits (written_is_spelled m fits)
