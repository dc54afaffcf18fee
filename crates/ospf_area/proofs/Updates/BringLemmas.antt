-- The LSAs of an Update are short.
use Rattle.std.proofs.Common.{◌≡◌, ◌==◌, ◌≤◌, inl, inr, ℕ, zero, suc, Bool, true, false, if◌then◌else◌, Some, List, [], length, drop, refl, sym, ap, subst, arith, ◌∙◌}
use Rattle.std.specs.List.{AllByRecursion}
use Rattle.std.proofs.lemmas.List.{length-drop, length-take}
use Rattle.std.proofs.lemmas.Option.{none-some, same_Some}
use Rattle.ospf_base.specs.Bytes.{number_at}
use Rattle.ospf_base.specs.Constants.{largest_lsa, largest_packet, packet_header}
use Rattle.ospf_packet.proofs.PacketLaws.{packet_decided, packet_of-is, packet_of-not}
use Rattle.ospf_packet.specs.Meaning.{BodyMeaning, Meaning, hello, description, request, update, acknowledgment}
use Rattle.ospf_packet.specs.Packet.{body_at, body_of, meaning_of, packet_type}
use Rattle.ospf_packet.specs.PacketOf.{packet_of}
use Rattle.ospf_packet.specs.Slices.{lsa_length, slices_in}
use Rattle.ospf_packet.specs.declared.fault.PacketFault.TheVariants as fault
use Rattle.ospf_area.specs.Updates.Laws.{IsShortLsa}

-- no slice is longer than all of them
slices_short : (n : ℕ) (bytes : List ℕ) → length bytes ≤ largest_lsa → AllByRecursion IsShortLsa (slices_in n bytes)
slices_short zero bytes short = tt
slices_short (suc n) bytes short =
    let first = length-take (lsa_length bytes) bytes in
    let left = length-drop (lsa_length bytes) bytes in
    (omega arith, slices_short n (drop (lsa_length bytes) bytes) (omega arith))

-- the LSAs of a body that has some
lsas_of : BodyMeaning → List (List ℕ)
lsas_of (hello h routers) = []
lsas_of (description d headers) = []
lsas_of (request entries) = []
lsas_of (update lsas) = lsas
lsas_of (acknowledgment headers) = []

-- those of a body by its type
typed_short : (a b c d : Bool) (x y z w v : BodyMeaning) → lsas_of x ≡ [] → lsas_of y ≡ [] → lsas_of z ≡ [] → lsas_of v ≡ [] → AllByRecursion IsShortLsa (lsas_of w)
    → AllByRecursion IsShortLsa (lsas_of (if a then x else (if b then y else (if c then z else (if d then w else v)))))
typed_short true b c d x y z w v nx ny nz nv short = subst (λ (ls : List (List ℕ)). AllByRecursion IsShortLsa ls) (sym nx) tt
typed_short false true c d x y z w v nx ny nz nv short = subst (λ (ls : List (List ℕ)). AllByRecursion IsShortLsa ls) (sym ny) tt
typed_short false false true d x y z w v nx ny nz nv short = subst (λ (ls : List (List ℕ)). AllByRecursion IsShortLsa ls) (sym nz) tt
typed_short false false false true x y z w v nx ny nz nv short = short
typed_short false false false false x y z w v nx ny nz nv short = subst (λ (ls : List (List ℕ)). AllByRecursion IsShortLsa ls) (sym nv) tt

body_short : (kind : ℕ) (body : List ℕ) → length (drop 4 body) ≤ largest_lsa → AllByRecursion IsShortLsa (lsas_of (body_at kind body))
unfolding lsas_of
body_short kind body short =
    typed_short (kind == 1) (kind == 2) (kind == 3) (kind == 4) _ _ _ (update (slices_in (number_at 0 4 body) (drop 4 body))) _ refl refl refl refl
    (slices_short (number_at 0 4 body) (drop 4 body) short)

pub brings_short : (bytes : List ℕ) (m : Meaning) (lsas : List (List ℕ)) → packet_of bytes ≡ Some m → m.body ≡ update lsas → AllByRecursion IsShortLsa lsas
unfolding lsas_of
brings_short bytes m lsas read is = elim (packet_decided bytes) [
  | inl packet ↦
      let m_is : meaning_of bytes ≡ m = same_Some (meaning_of bytes) m (sym (packet_of-is bytes packet) ∙ read) in
      let body : body_at (packet_type bytes) (body_of bytes) ≡ update lsas = ap (λ (x : Meaning). x.body) m_is ∙ is in
      let whole : length bytes ≤ largest_packet = packet fault.TooLong in
      let behind = length-drop packet_header bytes in
      let left = length-drop 4 (body_of bytes) in
      subst (λ (ls : List (List ℕ)). AllByRecursion IsShortLsa ls) (ap lsas_of body) (body_short (packet_type bytes) (body_of bytes) (omega arith))
  | inr not ↦ absurd (none-some m (sym (packet_of-not bytes not) ∙ read))
]
