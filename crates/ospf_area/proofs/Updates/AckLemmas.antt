-- As many headers in a packet as fit.
use Rattle.std.proofs.Common.{◌≡◌, ◌<◌, ◌≤◌, ℕ, zero, suc, min, List, [], ◌∷◌, ◌++◌, length, map, take, drop, refl, sym, ap, ◌∙◌, arith}
use Rattle.std.specs.List.{flat_map}
use Rattle.std.proofs.lemmas.List.{length-drop}
use Rattle.ospf_lsa.specs.declared.header.LsaHeader.{LsaHeader}
use Rattle.ospf_area.specs.Updates.Acks.{ack_packet, ack_packets, ack_room, acks_out, cut, in_order, packed_packets}
use Rattle.ospf_area.proofs.Updates.Words.{ack_out, packets}
use Rattle.ospf_base.specs.declared.ids.Addr.{Addr}
use Rattle.ospf_neighbour.specs.declared.iface.machine.Iface.{Iface}
use Rattle.ospf_area.specs.Outputs.{SentValue}
use Rattle.ospf_area.specs.Outboxes.{OutboxValue, and_packets, posted_all}
use Rattle.ospf_area.specs.Sending.{way_out}
use Rattle.ospf_area.specs.State.{LinkValue}
use Rattle.ospf_area.specs.declared.sending.RouterContext.{RouterContext}
use Rattle.ospf_area.proofs.OutboxLemmas.{packets_more, posted-first}

cut_none : (n room : ℕ) → cut n room [] ≡ []
unfolding cut
cut_none zero room = refl
cut_none (suc n) room = refl

cut_same : (n m room : ℕ) (hs : List LsaHeader) → 0 < room → length hs ≤ n → length hs ≤ m → cut n room hs ≡ cut m room hs
unfolding cut
cut_same n m room [] pos le le' = cut_none n room ∙ sym (cut_none m room)
cut_same zero m room (h ∷ hs) pos le le' = absurd (omega arith)
cut_same (suc n) zero room (h ∷ hs) pos le le' = absurd (omega arith)
cut_same (suc n) (suc m) room (h ∷ hs) pos le le' =
    let k = min room (length (h ∷ hs)) in
    let long = length-drop k (h ∷ hs) in
    ap (λ l. take k (h ∷ hs) ∷ l) (cut_same n m room (drop k (h ∷ hs)) pos (omega arith) (omega arith))

packets_step : (room : ℕ) (hs : List LsaHeader) → 0 < room → 0 < length hs → packets room hs ≡ take (min room (length hs)) hs ∷ packets room (drop (min room (length hs)) hs)
unfolding cut
packets_step room [] pos some = absurd (omega arith)
packets_step room (h ∷ hs) pos some =
    let k = min room (length (h ∷ hs)) in
    let long = length-drop k (h ∷ hs) in
    ap (λ l. take k (h ∷ hs) ∷ l) (cut_same (length hs) (length (drop k (h ∷ hs))) room (drop k (h ∷ hs)) pos (omega arith) (omega arith))

pub packed_step : (to : Addr) (room : ℕ) (hs : List LsaHeader) → 0 < room → 0 < length hs
    → packed_packets to room hs ≡ ack_packet to (take (min room (length hs)) hs) ∷ packed_packets to room (drop (min room (length hs)) hs)
packed_step to room hs pos some = ap (map (ack_packet to)) (packets_step room hs pos some)

-- one packet is to go out
pub packed_on : (p p' : OutboxValue) (to : Addr) (room : ℕ) (hs front back : List LsaHeader) (k : ℕ) → 0 < room → 0 < length hs
    → k ≡ min room (length hs) → front ≡ take k hs → back ≡ drop k hs → p' ≡ and_packets p (ack_packet to front ∷ [])
    → and_packets p' (packed_packets to room back) ≡ and_packets p (packed_packets to room hs)
packed_on p p' to room hs front back k pos some is_k is_front is_back is_left =
    ap (λ (q : OutboxValue). and_packets q (packed_packets to room back)) is_left
    ∙ packets_more p (ack_packet to front ∷ []) (packed_packets to room back)
    ∙ ap (λ (l : List LsaHeader). and_packets p (ack_packet to l ∷ packed_packets to room back)) (is_front ∙ ap (λ (n : ℕ). take n hs) is_k)
    ∙ ap (λ (l : List LsaHeader). and_packets p (ack_packet to (take (min room (length hs)) hs) ∷ packed_packets to room l)) (is_back ∙ ap (λ (n : ℕ). drop n hs) is_k)
    ∙ ap (and_packets p) (sym (packed_step to room hs pos some))

pub packed_end : (to : Addr) (room : ℕ) (hs : List LsaHeader) → length hs ≤ 0 → packed_packets to room hs ≡ []
packed_end to room [] le = ap (map (ack_packet to)) (cut_none 0 room)
packed_end to room (h ∷ hs) le = absurd (omega arith)

-- ---- as they go out

posted_each : (own : RouterContext) (l : ℕ) (i : Iface) (to : Addr) (hss : List (List LsaHeader)) → posted_all own l i (map (ack_packet to) hss) ≡ flat_map (ack_out own (way_out l i to)) hss
posted_each own l i to [] = refl
posted_each own l i to (hs ∷ hss) = ap (λ (ds : List SentValue). ack_out own (way_out l i to) hs ++ ds) (posted_each own l i to hss)

-- the acknowledgements of a link, by what the code has at hand of it
pub acks_posted : (own : RouterContext) (l n : ℕ) (to : Iface → Addr) (link view : LinkValue) (hs : List LsaHeader) (address : Addr) (o p : OutboxValue)
    → view ≡ link → o ≡ record { next = n; sent = [] } → address ≡ to view.iface → p ≡ and_packets o (ack_packets address view.settings.mtu hs)
    → posted_all own l view.iface p.sent ≡ acks_out own (way_out l link.iface (to link.iface)) link.settings.mtu hs
acks_posted own l n to link view hs address o p is_view is_new is_address is_left =
    posted-first own l view.iface n o p (ack_packets address view.settings.mtu hs) is_new is_left
    ∙ posted_each own l view.iface address (packets (ack_room view.settings.mtu) (in_order hs))
    ∙ ap (λ (a : Addr). acks_out own (way_out l view.iface a) view.settings.mtu hs) is_address
    ∙ ap (λ (x : LinkValue). acks_out own (way_out l x.iface (to x.iface)) x.settings.mtu hs) is_view
