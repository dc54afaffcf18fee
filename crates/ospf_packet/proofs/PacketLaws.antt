-- What is said by bytes that are a packet, and by others.
use Rattle.std.proofs.Common.{◌≡◌, ℕ, zero, suc, ◌-◌, ◌%◌, ◌≤◌, ◌==◌, ◌&&◌, ◌⊎◌, inl, inr, Bool, true, false, List, length, drop, slice_index, Some, None, refl, arith}
use Rattle.std.specs.Prelude.{nat_le}
use Rattle.std.proofs.lemmas.Bool.{false≢true, eqb-true, eq-eqb}
use Rattle.std.proofs.lemmas.Bool.Decides.{nat_tests}
use Rattle.ospf_base.specs.Bytes.{number_at}
use Rattle.ospf_base.specs.Constants.{largest_packet, lsa_header, packet_header}
use Rattle.ospf_base.specs.Sums.{packet_checksum}
use Rattle.ospf_packet.specs.Fields.{description_fields, hello_fields}
use Rattle.ospf_packet.specs.Packet.{IsBody, IsPacketFreeOf, IsPacket, meaning_of, packet_type, body_of}
use Rattle.ospf_packet.specs.PacketOf.{are_slices, implies, is_body, is_packet, packet_of}
use Rattle.ospf_packet.proofs.Words.{is_first_slice}
use Rattle.ospf_packet.specs.Requests.{request_size}
use Rattle.ospf_packet.specs.Slices.{AreSlices, IsFirstSlice, lsa_length}
use Rattle.ospf_packet.specs.declared.fault.PacketFault.TheVariants as fault
use Rattle.ospf_packet.proofs.SliceLaws.{AreSlices-cons, AreSlices-first, AreSlices-none, no_bytes}

-- the test is true exactly where the fact holds
record Tests (b : Bool) (P : Type 0) : Type 0 where
  yes : b ≡ true → P
  back : P → b ≡ true

le_tests : (m n : ℕ) → Tests (nat_le m n) (m ≤ n)
le_tests m n = record { yes = λ e. grind (arith, nat_tests); back = λ le. grind (arith, nat_tests) }

eq_tests : (m n : ℕ) → Tests (m == n) (m ≡ n)
eq_tests m n = record { yes = eqb-true m n; back = eq-eqb m n }

and_tests : (b c : Bool) (P Q : Type 0) → Tests b P → Tests c Q → Tests (b && c) (P × Q)
and_tests true c P Q p q = record { yes = λ e. (p.yes refl, q.yes e); back = λ both. q.back both.1 }
and_tests false c P Q p q = record { yes = λ e. absurd (false≢true e); back = λ both. p.back both.0 }

implies_tests : (b c : Bool) (P Q : Type 0) → Tests b P → Tests c Q → Tests (implies b c) (P → Q)
implies_tests true c P Q p q = record { yes = λ e _. q.yes e; back = λ f. q.back (f (p.yes refl)) }
implies_tests false c P Q p q = record { yes = λ _ holds. absurd (false≢true (p.back holds)); back = λ _. refl }

first_tests : (bytes : List ℕ) → Tests (is_first_slice bytes) (IsFirstSlice bytes)
first_tests bytes =
    let all = and_tests _ _ _ _ (le_tests lsa_header (length bytes)) (and_tests _ _ _ _ (le_tests lsa_header (lsa_length bytes)) (le_tests (lsa_length bytes) (length bytes))) in
    record {
      yes = λ e. (let is = all.yes e in record { header = is.0; long = is.1.0; whole = is.1.1 });
      back = λ is. all.back (is.header, (is.long, is.whole));
    }

slices_tests : (n : ℕ) (bytes : List ℕ) → Tests (are_slices n bytes) (AreSlices n bytes)
slices_tests zero bytes = record { yes = λ e. AreSlices-none bytes (eqb-true (length bytes) 0 e); back = λ are. eq-eqb (length bytes) 0 (no_bytes bytes are) }
slices_tests (suc n) bytes =
    let both = and_tests _ _ _ _ (first_tests bytes) (slices_tests n (drop (lsa_length bytes) bytes)) in
    record {
      yes = λ e. (let is = both.yes e in AreSlices-cons n bytes is.0 is.1);
      back = λ are. both.back (AreSlices-first n bytes are);
    }

body_tests : (kind : ℕ) (body : List ℕ) → Tests (is_body kind body) (IsBody kind body)
body_tests kind body =
    let n = length body in
    let all =
    and_tests _ _ _ _ (implies_tests _ _ _ _ (eq_tests kind 1) (and_tests _ _ _ _ (le_tests hello_fields n) (eq_tests ((n - hello_fields) % 4) 0)))
    (and_tests _ _ _ _ (implies_tests _ _ _ _ (eq_tests kind 2) (and_tests _ _ _ _ (le_tests description_fields n) (eq_tests ((n - description_fields) % lsa_header) 0)))
    (and_tests _ _ _ _ (implies_tests _ _ _ _ (eq_tests kind 3) (eq_tests (n % request_size) 0))
    (and_tests _ _ _ _ (implies_tests _ _ _ _ (eq_tests kind 4) (and_tests _ _ _ _ (le_tests 4 n) (slices_tests (number_at 0 4 body) (drop 4 body))))
    (implies_tests _ _ _ _ (eq_tests kind 5) (eq_tests (n % lsa_header) 0)))))
    in
    record {
      yes = λ e. (let is = all.yes e in record { hello_is = is.0; description_is = is.1.0; request_is = is.1.1.0; update_is = is.1.1.1.0; acknowledgment_is = is.1.1.1.1 });
      back = λ is. all.back (is.hello_is, (is.description_is, (is.request_is, (is.update_is, is.acknowledgment_is))));
    }

all_of : (packet : List ℕ) → IsPacketFreeOf fault.Short packet → IsPacketFreeOf fault.Version packet → IsPacketFreeOf fault.Kind packet → IsPacketFreeOf fault.Length packet
    → IsPacketFreeOf fault.Sum packet → IsPacketFreeOf fault.Auth packet → IsPacketFreeOf fault.Body packet → IsPacketFreeOf fault.TooLong packet → IsPacket packet
all_of packet a b c d e f g h fault.Short = a
all_of packet a b c d e f g h fault.Version = b
all_of packet a b c d e f g h fault.Kind = c
all_of packet a b c d e f g h fault.Length = d
all_of packet a b c d e f g h fault.Sum = e
all_of packet a b c d e f g h fault.Auth = f
all_of packet a b c d e f g h fault.Body = g
all_of packet a b c d e f g h fault.TooLong = h

packet_tests : (packet : List ℕ) → Tests (is_packet packet) (IsPacket packet)
unfolding is_packet
packet_tests packet =
    let kind = packet_type packet in
    let all =
    and_tests _ _ _ _ (le_tests packet_header (length packet)) (and_tests _ _ _ _ (eq_tests (slice_index packet 0) 2)
    (and_tests _ _ _ _ (and_tests _ _ _ _ (le_tests 1 kind) (le_tests kind 5))
    (and_tests _ _ _ _ (eq_tests (number_at 2 2 packet) (length packet)) (and_tests _ _ _ _ (eq_tests (number_at 12 2 packet) (packet_checksum packet))
    (and_tests _ _ _ _ (eq_tests (number_at 14 2 packet) 0) (and_tests _ _ _ _ (body_tests kind (body_of packet)) (le_tests (length packet) largest_packet)))))))
    in
    record {
      yes = λ e. (let is = all.yes e in all_of packet is.0 is.1.0 is.1.1.0 is.1.1.1.0 is.1.1.1.1.0 is.1.1.1.1.1.0 is.1.1.1.1.1.1.0 is.1.1.1.1.1.1.1);
      back = λ is. all.back (is fault.Short, (is fault.Version, (is fault.Kind, (is fault.Length, (is fault.Sum, (is fault.Auth, (is fault.Body, is fault.TooLong)))))));
    }

bool_cases : (b : Bool) → (b ≡ true) ⊎ (b ≡ false)
bool_cases true = inl refl
bool_cases false = inr refl

-- whether bytes are a packet
pub packet_decided : (packet : List ℕ) → IsPacket packet ⊎ (IsPacket packet → ⊥)
packet_decided packet = elim (bool_cases (is_packet packet)) [
  | inl one ↦ inl ((packet_tests packet).yes one)
  | inr two ↦ inr (λ is. let one = (packet_tests packet).back is in absurd cc)
]

pub packet_of-is : (packet : List ℕ) → IsPacket packet → packet_of packet ≡ Some (meaning_of packet)
unfolding packet_of
packet_of-is packet is = let one = (packet_tests packet).back is in rw one refl

pub packet_of-not : (packet : List ℕ) → (IsPacket packet → ⊥) → packet_of packet ≡ None
unfolding packet_of
packet_of-not packet not = elim (bool_cases (is_packet packet)) [
  | inl one ↦ absurd (not ((packet_tests packet).yes one))
  | inr two ↦ rw two refl
]
