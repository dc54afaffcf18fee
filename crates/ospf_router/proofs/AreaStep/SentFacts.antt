-- What the datagrams of an Update and of acknowledgements say.
use Rattle.std.proofs.Common.{◌≡◌, inl, inr, ℕ, zero, suc, Bool, true, false, cond, List, [], ◌∷◌, length, Option, refl, sym, ap, arith, ◌⊎◌, take, drop, min, None, Some, subst}
use Rattle.std.specs.Prelude.{nat_lt}
use Rattle.std.specs.List.{Contains, flat_map}
use Rattle.std.proofs.lemmas.List.Elements.{Contains-append_cases, Contains-append_left, Contains-append_right}
use Rattle.ospf_base.specs.Sums.{contents}
use Rattle.ospf_lsa.specs.Header.{header_of}
use Rattle.ospf_lsa.specs.Lsa.{key_of, with_age}
use Rattle.ospf_packet.specs.Meaning.{update, Meaning, packet_bytes, acknowledgment}
use Rattle.ospf_base.specs.Constants.{largest_packet}
use Rattle.ospf_area.specs.Flooding.{flooding_updates, goes_out}
use Rattle.ospf_area.specs.Outputs.{SentValue}
use Rattle.ospf_area.specs.Places.{flat_from}
use Rattle.ospf_area.specs.Sending.{datagrams, packet_from, sent_lsa}
use Rattle.ospf_area.specs.State.{LinkValue}
use Rattle.ospf_area.specs.declared.flooding.PacketSource.{PacketSource}
use Rattle.ospf_area.specs.declared.sending.RouterContext.{RouterContext}
use Rattle.ospf_area.specs.declared.sending.Way.{Way}
use Rattle.ospf_router.proofs.AreaStep.StateFacts.{Contains-nil}
use Rattle.std.proofs.lemmas.List.{take-append-drop}
use Rattle.ospf_lsa.specs.declared.header.LsaHeader.{LsaHeader}
use Rattle.ospf_area.specs.Updates.Acks.{header_precedes, put_in_order, in_order, ack_room, cut, acks_out}
use Rattle.ospf_area.proofs.Updates.Words.{direct_out_on, put_all_in_order, packets, ack_out}
use Rattle.ospf_area.proofs.Words.{flooding_update}

-- What the datagrams of an Update say.
one_of : {X : Type 0} (x y : X) → Contains (x ∷ []) y → y ≡ x
one_of x y (zero, within, is) = sym is
one_of x y (suc k, within, is) = absurd (omega arith)

pub datagrams-packet : (way : Way) (m : Meaning) (d : SentValue) → Contains (datagrams way m) d → d.packet ≡ m
unfolding datagrams
datagrams-packet way m d c = go (nat_lt largest_packet (length (packet_bytes m))) c
  where
    it : SentValue
    it = record { link = way.link; source = way.source; destination = way.destination; bytes = packet_bytes m; packet = m }

    go : (b : Bool) → Contains (cond b [] (it ∷ [])) d → d.packet ≡ m
    go true c = absurd (Contains-nil d c)
    go false c = ap (λ d. d.packet) (one_of it d c)

-- an Update of one LSA of these contents
pub record IsUpdateOf (own : RouterContext) (lsa : List ℕ) (m : Meaning) : Type 0 where
  pub one : List ℕ
  pub packet : m ≡ packet_from own (update (one ∷ []))
  pub same : contents one ≡ contents lsa

flooding_update-packet : (own : RouterContext) (lsa : List ℕ) (from : Option PacketSource) (l : ℕ) (link : LinkValue) (d : SentValue) → Contains (flooding_update own lsa from l link) d → IsUpdateOf own lsa d.packet
flooding_update-packet own lsa from l link d c = go (goes_out (key_of lsa) (header_of lsa) from l link) _ c
  where
    go : (b : Bool) (way : Way) → Contains (cond b (datagrams way (packet_from own (update (sent_lsa link.settings.transmit_delay lsa ∷ [])))) []) d → IsUpdateOf own lsa d.packet
    go true way c = record { one = sent_lsa link.settings.transmit_delay lsa; packet = datagrams-packet way (packet_from own (update (sent_lsa link.settings.transmit_delay lsa ∷ []))) d c; same = refl }
    go false way c = absurd (Contains-nil d c)

from-packets : (own : RouterContext) (lsa : List ℕ) (from : Option PacketSource) (k : ℕ) (links : List LinkValue) (d : SentValue) → Contains (flat_from (flooding_update own lsa from) k links) d → IsUpdateOf own lsa d.packet
from-packets own lsa from k [] d c = absurd (Contains-nil d c)
from-packets own lsa from k (link ∷ links) d c = elim (Contains-append_cases (flooding_update own lsa from k link) (flat_from (flooding_update own lsa from) (suc k) links) d c) [
  | inl here ↦ flooding_update-packet own lsa from k link d here
  | inr later ↦ from-packets own lsa from (suc k) links d later
]

pub flooding-packets : (own : RouterContext) (lsa : List ℕ) (from : Option PacketSource) (links : List LinkValue) (d : SentValue) → Contains (flooding_updates own lsa from links) d → IsUpdateOf own lsa d.packet
flooding-packets own lsa from links d c = from-packets own lsa from 0 links d c

-- What the acknowledgements that are sent name (RFC 2328, section 13.5).
pub first_or_later : {X : Type 0} (y : X) (xs : List X) (x : X) → Contains (y ∷ xs) x → (y ≡ x) ⊎ Contains xs x
first_or_later y xs x (zero, within, is) = inl is
first_or_later y xs x (suc k, within, is) = inr (k, omega arith, is)

later : {X : Type 0} (y : X) (xs : List X) (x : X) → Contains xs x → Contains (y ∷ xs) x
later y xs x (k, within, is) = (suc k, omega arith, is)

put-members : (h : LsaHeader) (xs : List LsaHeader) (x : LsaHeader) → Contains (put_in_order h xs) x → (h ≡ x) ⊎ Contains xs x
put-members h [] x c = first_or_later h [] x c
put-members h (y ∷ xs) x c = go (header_precedes h y) c (put-members h xs x)
  where
    go : (b : Bool) → Contains (cond b (h ∷ y ∷ xs) (y ∷ put_in_order h xs)) x → (Contains (put_in_order h xs) x → (h ≡ x) ⊎ Contains xs x) → (h ≡ x) ⊎ Contains (y ∷ xs) x
    go true c rec = first_or_later h (y ∷ xs) x c
    go false c rec = elim (first_or_later y (put_in_order h xs) x c) [
      | inl first ↦ inr (0, omega arith, first)
      | inr rest ↦ elim (rec rest) [ inl it ↦ inl it | inr there ↦ inr (later y xs x there) ]
    ]

put_all-members : (hs sorted : List LsaHeader) (x : LsaHeader) → Contains (put_all_in_order hs sorted) x → Contains hs x ⊎ Contains sorted x
put_all-members [] sorted x c = inr c
put_all-members (h ∷ hs) sorted x c = elim (put_all-members hs (put_in_order h sorted) x c) [
  | inl rest ↦ inl (later h hs x rest)
  | inr put ↦ elim (put-members h sorted x put) [ inl it ↦ inl (0, omega arith, it) | inr there ↦ inr there ]
]

in_order-members : (hs : List LsaHeader) (x : LsaHeader) → Contains (in_order hs) x → Contains hs x
in_order-members hs x c = elim (put_all-members hs [] x c) [ inl there ↦ there | inr none ↦ absurd (Contains-nil x none) ]

in_take : (k : ℕ) (hs : List LsaHeader) (x : LsaHeader) → Contains (take k hs) x → Contains hs x
in_take k hs x c = subst (λ l. Contains l x) (take-append-drop k hs) (Contains-append_left (take k hs) (drop k hs) x c)

in_drop : (k : ℕ) (hs : List LsaHeader) (x : LsaHeader) → Contains (drop k hs) x → Contains hs x
in_drop k hs x c = subst (λ l. Contains l x) (take-append-drop k hs) (Contains-append_right (take k hs) (drop k hs) x c)

cut-members : (n room : ℕ) (hs chunk : List LsaHeader) (x : LsaHeader) → Contains (cut n room hs) chunk → Contains chunk x → Contains hs x
unfolding cut
cut-members zero room hs chunk x c m = absurd (Contains-nil chunk c)
cut-members (suc n) room [] chunk x c m = absurd (Contains-nil chunk c)
cut-members (suc n) room (h ∷ hs) chunk x c m = elim (first_or_later _ _ chunk c) [
  | inl first ↦ in_take (min room (length (h ∷ hs))) (h ∷ hs) x (subst (λ l. Contains l x) (sym first) m)
  | inr rest ↦ in_drop (min room (length (h ∷ hs))) (h ∷ hs) x (cut-members n room (drop (min room (length (h ∷ hs))) (h ∷ hs)) chunk x rest m)
]

pub flat_map-members : {X Y : Type 0} (f : X → List Y) (xs : List X) (y : Y) → Contains (flat_map f xs) y → (x : X) × Contains xs x × Contains (f x) y
flat_map-members f [] y c = absurd (Contains-nil y c)
flat_map-members f (x ∷ xs) y c = elim (Contains-append_cases (f x) (flat_map f xs) y c) [
  | inl here ↦ (x, (0, omega arith, refl), here)
  | inr rest ↦ (let (z, there, from) = flat_map-members f xs y rest in (z, later x xs z there, from))
]

-- an Acknowledgment of some of these headers
pub record IsAcknowledgmentOf (own : RouterContext) (hs : List LsaHeader) (m : Meaning) : Type 0 where
  pub some : List LsaHeader
  pub packet : m ≡ packet_from own (acknowledgment some)
  pub within : (h : LsaHeader) → Contains some h → Contains hs h

pub acks-packets : (own : RouterContext) (way : Way) (mtu : ℕ) (hs : List LsaHeader) (d : SentValue) → Contains (acks_out own way mtu hs) d → IsAcknowledgmentOf own hs d.packet
acks-packets own way mtu hs d c =
    let (chunk, inside, sent) = flat_map-members (ack_out own way) (packets (ack_room mtu) (in_order hs)) d c in
    record {
      some = chunk;
      packet = datagrams-packet way (packet_from own (acknowledgment chunk)) d sent;
      within = λ h m. in_order-members hs h (cut-members (length (in_order hs)) (ack_room mtu) (in_order hs) chunk h inside m);
    }

pub direct-packets : (own : RouterContext) (f : PacketSource) (hs : List LsaHeader) (o : Option LinkValue) (d : SentValue) → Contains (direct_out_on own f hs o) d → IsAcknowledgmentOf own hs d.packet
direct-packets own f hs None d c = absurd (Contains-nil d c)
direct-packets own f hs (Some link) d c = acks-packets own _ link.settings.mtu hs d c
