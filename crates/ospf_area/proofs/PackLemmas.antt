-- Entries of one size that are packed.
use Rattle.std.proofs.Common.{◌≡◌, ◌+◌, ◌-◌, ◌*◌, ◌/◌, ◌<◌, ◌≤◌, ℕ, suc, min, List, [], ◌∷◌, ◌++◌, length, length-append, map, take, drop, refl, ap, arith}
use Rattle.std.proofs.lemmas.List.{length-drop, length-take, take-append-drop}
use Rattle.std.proofs.lemmas.Nat.{div-add-mod', mod_below}
use Rattle.std.proofs.Math.Nat.{mul-le-mul_right}
use Rattle.ospf_lsa.specs.declared.header.LsaHeader.{LsaHeader}
use Rattle.ospf_packet.specs.Meaning.{BodyMeaning, Meaning, packet_body_bytes}
use Rattle.ospf_packet.proofs.BodyLengths.{request_length}
use Rattle.ospf_exchange.proofs.Words.{request_room}
use Rattle.ospf_area.specs.Laws.{RequestsAreFilled, request_for}
use Rattle.ospf_area.specs.Packing.{IsFilled, ip_length}
use Rattle.ospf_area.specs.Sending.{packet_from}
use Rattle.ospf_area.specs.declared.sending.RouterContext.{RouterContext}
use Rattle.ospf_area.proofs.Words.{entry_for}

-- the datagram is its headers and the body
pub ip_length-is : (own : RouterContext) (body : BodyMeaning) → ip_length (packet_from own body) ≡ 44 + length (packet_body_bytes body)
ip_length-is own body = omega arith

-- as many of them as there is room for
pub room_used : (mtu base size room n : ℕ) → 0 < size → base ≤ mtu → room ≡ (mtu - base) / size → n ≤ room → base + n * size ≤ mtu
room_used mtu base size room n some within is le =
    let div = div-add-mod' (mtu - base) size in
    let same : room * size ≡ (mtu - base) / size * size = ap (λ (r : ℕ). r * size) is in
    omega (arith, div, same, mul-le-mul_right size le)

pub room_passed : (mtu base size room : ℕ) → 0 < size → room ≡ (mtu - base) / size → mtu < base + (room + 1) * size
room_passed mtu base size room some is =
    let div = div-add-mod' (mtu - base) size in
    let same : room * size ≡ (mtu - base) / size * size = ap (λ (r : ℕ). r * size) is in
    omega (arith, div, same, mod_below (mtu - base) size some)

pub filled : {X : Type 0} (packet_with : List X → Meaning) (mtu base size room : ℕ) (entries packed rest : List X)
    → ((xs : List X) → ip_length (packet_with xs) ≡ base + length xs * size) → 0 < size → base ≤ mtu → room ≡ (mtu - base) / size
    → packed ++ rest ≡ entries → length packed ≤ room → (0 < length rest → length packed ≡ room) → IsFilled packet_with mtu entries packed rest
filled {X} packet_with mtu base size room entries packed rest sized some within is whole le all = record {
  whole = whole;
  fits = let used = room_used mtu base size room (length packed) some within is le in let here = sized packed in omega arith;
  full = λ next later more.
      let left : length rest ≡ suc (length later) = ap length more in
      let used : length packed ≡ room = all (omega arith) in
      let long : length (packed ++ next ∷ []) ≡ room + 1 = omega (arith, used, length-append packed (next ∷ [])) in
      let here = sized (packed ++ next ∷ []) in
      let times : length (packed ++ next ∷ []) * size ≡ (room + 1) * size = ap (λ (n : ℕ). n * size) long in
      omega (arith, here, times, room_passed mtu base size room some is);
}

-- ---- Requests

length-map : {X Y : Type 0} (f : X → Y) (xs : List X) → length (map f xs) ≡ length xs
length-map f [] = refl
length-map f (x ∷ xs) = ap suc (length-map f xs)

request_sized : (own : RouterContext) (headers : List LsaHeader) → ip_length (packet_from own (request_for headers)) ≡ 44 + length headers * 12
request_sized own headers = omega (arith, ip_length-is own (request_for headers), request_length (map entry_for headers), ap (λ (n : ℕ). n * 12) (length-map entry_for headers))

pub requests_are_filled : RequestsAreFilled
requests_are_filled own mtu tick n within =
    let k = min (request_room mtu) (length n.requests) in
    let long = length-take k n.requests in
    let left = length-drop k n.requests in (
      take k n.requests,
      drop k n.requests,
      refl,
      filled (λ headers. packet_from own (request_for headers)) mtu 44 12 (request_room mtu) n.requests (take k n.requests) (drop k n.requests)
          (request_sized own) (omega arith) within refl (take-append-drop k n.requests) (omega arith) (omega (arith, left)),
    )
