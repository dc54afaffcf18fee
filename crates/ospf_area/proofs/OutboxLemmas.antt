-- Packets that go out of a link, one after the other.
use Rattle.std.proofs.Common.{◌≡◌, ◌++◌, ◌∙◌, ℕ, Bool, true, false, if◌then◌else◌, List, [], ◌∷◌, ap, refl, sym}
use Rattle.std.specs.List.{flat_map}
use Rattle.std.proofs.lemmas.List.{append_assoc, append-nil}
use Rattle.ospf_base.specs.declared.ids.Addr.{Addr}
use Rattle.ospf_neighbour.specs.declared.iface.machine.Iface.{Iface}
use Rattle.ospf_area.specs.Asking.{turn_requests_on}
use Rattle.ospf_area.specs.Outputs.{OutputsValue, SentValue}
use Rattle.ospf_area.specs.Sending.{and_sends, sent_lsa, update_out, way_out}
use Rattle.ospf_area.specs.declared.sending.RouterContext.{RouterContext}
use Rattle.ospf_area.proofs.SendingLemmas.{sends_more}
use Rattle.ospf_area.specs.Packets.{PendingPacket, lsa_packet, packet_if, request_packet}
use Rattle.ospf_area.specs.Outboxes.{OutboxValue, and_packets, local_by, posted_all}
use Rattle.ospf_area.proofs.Words.{posted, turn_request, loaded}
use Rattle.ospf_area.specs.Turns.{Turn, all_next_packets, next_packets, request_turn, turn}
use Rattle.ospf_area.specs.State.{LinkValue}
use Rattle.ospf_area.specs.declared.outbox.LinkContext.{LinkContext}
use Rattle.ospf_area.specs.declared.state.LinkSettings.{LinkSettings}
use Rattle.ospf_exchange.specs.Requests.{asked_next, request_due}
use Rattle.ospf_exchange.specs.declared.rule.Local.{Local}
use Rattle.ospf_neighbour.specs.Neighbour.{NeighbourValue}

-- nothing more goes out
pub packets_none : (p : OutboxValue) → p ≡ and_packets p []
packets_none p = ap (λ (ps : List PendingPacket). record p { sent = ps }) (sym (append-nil p.sent))

-- these packets, and then those
pub packets_more : (p : OutboxValue) (ps qs : List PendingPacket) → and_packets (and_packets p ps) qs ≡ and_packets p (ps ++ qs)
packets_more p ps qs = ap (λ (rs : List PendingPacket). record p { sent = rs }) (append_assoc p.sent ps qs)

-- those that go out first, and then the others
pub posted-append : (own : RouterContext) (l : ℕ) (i : Iface) (ps qs : List PendingPacket) → posted_all own l i (ps ++ qs) ≡ posted_all own l i ps ++ posted_all own l i qs
posted-append own l i [] qs = refl
posted-append own l i (p ∷ ps) qs = ap (λ (ds : List SentValue). posted own l i p ++ ds) (posted-append own l i ps qs) ∙ sym (append_assoc (posted own l i p) (posted_all own l i ps) (posted_all own l i qs))

-- a packet goes out, or none
pub posted-if : (own : RouterContext) (l : ℕ) (i : Iface) (b : Bool) (p : PendingPacket) → posted_all own l i (packet_if b p) ≡ (if b then posted own l i p else [])
posted-if own l i true p = append-nil (posted own l i p)
posted-if own l i false p = refl

-- the next Requests of neighbours, as they go out
pub posted-next : (own : RouterContext) (l : ℕ) (i : Iface) (settings : LinkSettings) (ns : List NeighbourValue)
    → posted_all own l i (all_next_packets i (local_by own settings) ns) ≡ flat_map (turn_request own l i settings.mtu) ns
posted-next own l i settings [] = refl
posted-next own l i settings (n ∷ ns) =
    posted-append own l i (next_packets i (local_by own settings) n) (all_next_packets i (local_by own settings) ns)
    ∙ ap (λ (ds : List SentValue). ds ++ posted_all own l i (all_next_packets i (local_by own settings) ns)) (posted-if own l i (request_due (loaded n)) (request_packet i (asked_next settings.mtu own.tick (loaded n))))
    ∙ ap (λ (ds : List SentValue). turn_request own l i settings.mtu n ++ ds) (posted-next own l i settings ns)

-- one more neighbour has its turn
pub turn_leaves : (i : Iface) (local : Local) (n m : NeighbourValue) (p q : OutboxValue) → turn m q ≡ request_turn i local (turn n p) → q ≡ and_packets p (next_packets i local n)
turn_leaves i local n m p q is = ap (λ (t : Turn). let left : OutboxValue = record { next = t.next; sent = t.sent } in left) is

-- the Requests of a link go out
pub link_turned : (own : RouterContext) (l : ℕ) (link : LinkValue) (at : LinkContext) (o p : OutboxValue) (ns : List NeighbourValue)
    → at ≡ record { iface = link.iface; local = local_by own link.settings } → o ≡ record { next = 0; sent = [] } → ns ≡ link.neighbours → p ≡ and_packets o (all_next_packets at.iface at.local ns)
    → posted_all own l at.iface p.sent ≡ turn_requests_on own l link
link_turned own l link at o p ns is_at is_new are is_left =
    ap (λ (q : OutboxValue). posted_all own l at.iface q.sent) is_left
    ∙ ap (λ (q : OutboxValue). posted_all own l at.iface (q.sent ++ all_next_packets at.iface at.local ns)) is_new
    ∙ ap (λ (a : LinkContext). posted_all own l a.iface (all_next_packets a.iface a.local ns)) is_at
    ∙ ap (λ (all : List NeighbourValue). posted_all own l link.iface (all_next_packets link.iface (local_by own link.settings) all)) are
    ∙ posted-next own l link.iface link.settings link.neighbours

-- what was put first of all goes out
pub posted-first : (own : RouterContext) (l : ℕ) (i : Iface) (n : ℕ) (o p : OutboxValue) (ps : List PendingPacket) → o ≡ record { next = n; sent = [] } → p ≡ and_packets o ps → posted_all own l i p.sent ≡ posted_all own l i ps
posted-first own l i n o p ps is_new is_left =
    ap (λ (q : OutboxValue). posted_all own l i q.sent) is_left ∙ ap (λ (q : OutboxValue). posted_all own l i (q.sent ++ ps)) is_new

-- one packet
pub posted-one : (own : RouterContext) (l : ℕ) (i : Iface) (n : ℕ) (o p : OutboxValue) (q : PendingPacket) → o ≡ record { next = n; sent = [] } → p ≡ and_packets o (q ∷ []) → posted_all own l i p.sent ≡ posted own l i q
posted-one own l i n o p q is_new is_left = posted-first own l i n o p (q ∷ []) is_new is_left ∙ append-nil (posted own l i q)

-- an LSA goes out of a link, by what the code has at hand of it
pub lsa_posted : (own : RouterContext) (l n : ℕ) (to : Iface → Addr) (link view : LinkValue) (lsa copy : List ℕ) (address : Addr) (o p : OutboxValue)
    → view ≡ link → o ≡ record { next = n; sent = [] } → copy ≡ sent_lsa view.settings.transmit_delay lsa → address ≡ to view.iface → p ≡ and_packets o (lsa_packet address copy ∷ [])
    → posted_all own l view.iface p.sent ≡ update_out own (way_out l link.iface (to link.iface)) (sent_lsa link.settings.transmit_delay lsa ∷ [])
lsa_posted own l n to link view lsa copy address o p is_view is_new is_copy is_address is_left =
    posted-one own l view.iface n o p (lsa_packet address copy) is_new is_left
    ∙ ap (λ (a : Addr). posted own l view.iface (lsa_packet a copy)) is_address
    ∙ ap (λ (c : List ℕ). posted own l view.iface (lsa_packet (to view.iface) c)) is_copy
    ∙ ap (λ (x : LinkValue). posted own l x.iface (lsa_packet (to x.iface) (sent_lsa x.settings.transmit_delay lsa))) is_view
