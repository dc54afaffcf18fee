-- The sender of a packet, by its address and by its Router ID.
use Rattle.std.proofs.Common.{◌≡◌, ◌==◌, ◌≢◌, ◌<◌, ◌∙◌, ℕ, suc, Bool, true, false, not, List, [], ◌∷◌, Option, None, Some, length, nat_lt, refl, sym, ap, subst, inl, inr, arith, if◌then◌else◌, is_some, ◌&&◌, bit_and}
use Rattle.std.specs.List.{AllByRecursion}
use Rattle.std.proofs.lemmas.Bool.Decides.{eqb_tells, leb_tells}
use Rattle.ospf_base.specs.declared.ids.Addr.{Addr}
use Rattle.ospf_base.specs.declared.ids.RouterId.{RouterId}
use Rattle.ospf_exchange.specs.declared.rule.Local.{Local}
use Rattle.ospf_neighbour.specs.declared.iface.machine.Iface.{Iface}
use Rattle.ospf_lsa.specs.declared.header.LsaHeader.{LsaHeader}
use Rattle.ospf_neighbour.specs.Machine.{is_exchanging}
use Rattle.ospf_neighbour.specs.Neighbour.{NeighbourValue, is_empty}
use Rattle.ospf_neighbour.specs.Neighbours.{AreNeighboursRising, at_address, max_neighbours, neighbour_of}
use Rattle.ospf_packet.specs.Meaning.{BodyMeaning, hello, description, request, update, acknowledgment}
use Rattle.ospf_packet.specs.declared.body.Description.{Description}
use Rattle.ospf_adjacency.specs.Adjacency.{is_broadcast}
use Rattle.ospf_adjacency.specs.Descriptions.{dd_dropped}
use Rattle.ospf_neighbour.specs.Interface.Machine.{is_down}
use Rattle.ospf_neighbour.specs.Interface.Hello.{agrees}
use Rattle.ospf_router.specs.AreaStep.Receipt.{drop_below_exchange, drop_by_body, drop_of_description, drop_of_hello, is_destination, sender_in}
use Rattle.ospf_router.specs.AreaStep.Senders.{CanBeTaken, IsExchanging, NotDroppedIsTaken, SendersAreNeighbours}
use Rattle.ospf_router.specs.declared.step.dropped.Dropped.{Dropped}
use Rattle.ospf_router.specs.declared.step.dropped.Dropped.TheVariants as dropped

-- where all Router IDs are above q, none found by its address has q
none_at : (ns : List NeighbourValue) (a : Addr) (q : RouterId) (n : NeighbourValue) → AllByRecursion (λ m. q.0 < m.router.0) ns → at_address ns a ≡ Some n → n.router.0 ≢ q.0
none_at [] a q n above is same = absurd cc
none_at (m ∷ ms) a q n above is same = elim (eqb_tells m.address.0 a.0) [
  | inl w ↦ (let here : Some m ≡ Some n = rw w.0 at is in let one : m ≡ n = cc in omega (arith, above.0, ap (λ (x : NeighbourValue). x.router.0) one, same))
  | inr w ↦ none_at ms a q n above.1 (rw w.0 at is) same
]

-- one that its address finds is found by its Router ID
by_address : (ns : List NeighbourValue) (a : Addr) (q : RouterId) (n : NeighbourValue) → AreNeighboursRising ns → at_address ns a ≡ Some n → n.router.0 ≡ q.0 → neighbour_of ns q ≡ Some n
by_address [] a q n rises is same = absurd cc
by_address (m ∷ ms) a q n rises is same = elim (eqb_tells m.address.0 a.0) [
  | inl w ↦
      let here : Some m ≡ Some n = rw w.0 at is in
      let one : m ≡ n = cc in
      let id : m.router.0 == q.0 ≡ true = grind (arith, ap (λ (x : NeighbourValue). x.router.0) one, same) in
      (rw id here)
  | inr w ↦
      let later : at_address ms a ≡ Some n = rw w.0 at is in
      elim (eqb_tells m.router.0 q.0) [
        | inl v ↦ absurd (none_at ms a q n (subst (λ (k : ℕ). AllByRecursion (λ (o : NeighbourValue). k < o.router.0) ms) v.1 rises.0) later same)
        | inr v ↦ (rw v.0 (by_address ms a q n rises.1 later same))
      ]
]

by_kind : (b : Bool) (ns : List NeighbourValue) (source : Addr) (q : RouterId) (n : NeighbourValue) → AreNeighboursRising ns → (if b then at_address ns source else neighbour_of ns q) ≡ Some n → n.router.0 ≡ q.0 → neighbour_of ns q ≡ Some n
by_kind true ns source q n rises is same = by_address ns source q n rises is same
by_kind false ns source q n rises is same = is

pub senders : SendersAreNeighbours
senders i ns q source n rises is same = by_kind (is_broadcast i) ns source q n rises is same

-- ---- by what the packet says

few_new : (b : Bool) (n : ℕ) → (if b then Some dropped.WrongRouter else if nat_lt n max_neighbours then None else Some dropped.State) ≡ None → n < max_neighbours
few_new true n e = absurd cc
few_new false n e = elim (leb_tells (suc n) max_neighbours) [ inl w ↦ omega (arith, w.1) | inr w ↦ absurd (let bad : Some dropped.State ≡ None = rw w.0 at e in cc) ]

-- a Hello of a known router needs no room
room : (o : Option NeighbourValue) (i : Iface) (ns : List NeighbourValue) (q : RouterId) (source : Addr) → AreNeighboursRising ns → sender_in i ns q source ≡ o → drop_of_hello i ns q o ≡ None → neighbour_of ns q ≡ None → length ns < max_neighbours
room None i ns q source rises is e none = few_new (if is_broadcast i then is_some (neighbour_of ns q) else not (is_empty ns)) (length ns) e
room (Some n) i ns q source rises is e none = elim (eqb_tells n.router.0 q.0) [
  | inl w ↦ absurd (let bad : None ≡ Some n = sym none ∙ senders i ns q source n rises is w.1 in cc)
  | inr w ↦ absurd (let bad : Some dropped.WrongRouter ≡ None = rw w.0 at e in cc)
]

hello_room : (b : Bool) (i : Iface) (ns : List NeighbourValue) (q : RouterId) (source : Addr) → AreNeighboursRising ns
    → (if b then drop_of_hello i ns q (sender_in i ns q source) else Some dropped.HelloMismatch) ≡ None → neighbour_of ns q ≡ None → length ns < max_neighbours
hello_room true i ns q source rises e none = room (sender_in i ns q source) i ns q source rises refl e none
hello_room false i ns q source rises e none = absurd cc

if_not : (b : Bool) (d : Dropped) → (if b then Some d else None) ≡ None → b ≡ false
if_not true d e = absurd cc
if_not false d e = refl

if_so : (b : Bool) (d : Dropped) → (if b then None else Some d) ≡ None → b ≡ true
if_so true d e = refl
if_so false d e = absurd cc

described : (o : Option NeighbourValue) (local : Local) (i : Iface) (ns : List NeighbourValue) (q : RouterId) (source : Addr) (d : Description) (hs : List LsaHeader) → AreNeighboursRising ns → sender_in i ns q source ≡ o
    → drop_of_description local q d hs o ≡ None → (n : NeighbourValue) × (neighbour_of ns q ≡ Some n) × (dd_dropped local q d hs n ≡ false)
described None local i ns q source d hs rises is e = absurd cc
described (Some n) local i ns q source d hs rises is e = elim (eqb_tells n.router.0 q.0) [
  | inl w ↦ (n, senders i ns q source n rises is w.1, if_not (dd_dropped local q d hs n) dropped.State (rw w.0 at e))
  | inr w ↦ absurd (let bad : Some dropped.WrongRouter ≡ None = rw w.0 at e in cc)
]

exchanging : (o : Option NeighbourValue) (i : Iface) (ns : List NeighbourValue) (q : RouterId) (source : Addr) → AreNeighboursRising ns → sender_in i ns q source ≡ o → drop_below_exchange q o ≡ None → IsExchanging ns q
exchanging None i ns q source rises is e = absurd cc
exchanging (Some n) i ns q source rises is e = elim (eqb_tells n.router.0 q.0) [
  | inl w ↦ (n, senders i ns q source n rises is w.1, if_so (is_exchanging n.state) dropped.State (rw w.0 at e))
  | inr w ↦ absurd (let bad : Some dropped.WrongRouter ≡ None = rw w.0 at e in cc)
]

by_body : (body : BodyMeaning) (local : Local) (i : Iface) (ns : List NeighbourValue) (q : RouterId) (source : Addr) → AreNeighboursRising ns
    → drop_by_body local body i ns q (sender_in i ns q source) ≡ None → CanBeTaken local ns q body
by_body (hello fields heard) local i ns q source rises e = hello_room (agrees i fields) i ns q source rises e
by_body (description fields headers) local i ns q source rises e = described (sender_in i ns q source) local i ns q source fields headers rises refl e
by_body (request entries) local i ns q source rises e = exchanging (sender_in i ns q source) i ns q source rises refl e
by_body (update lsas) local i ns q source rises e = exchanging (sender_in i ns q source) i ns q source rises refl e
by_body (acknowledgment headers) local i ns q source rises e = exchanging (sender_in i ns q source) i ns q source rises refl e

-- what comes before is not the cause
else_of : (b : Bool) (d : Dropped) (o : Option Dropped) → (if b then Some d else o) ≡ None → o ≡ None
else_of true d o e = absurd cc
else_of false d o e = e

pub not_dropped : NotDroppedIsTaken
not_dropped local i ns area source destination m rises e =
    by_body m.body local i ns m.router source rises
    (else_of (is_broadcast i && not (bit_and source.0 i.settings.mask == bit_and i.settings.address.0 i.settings.mask)) dropped.Subnet _ (else_of (not (is_destination i destination)) dropped.Destination _ (else_of (m.router.0 == i.settings.router.0) dropped.OwnPacket _
    (else_of (not (m.area.0 == area.0)) dropped.Area _ (else_of (is_down i.state) dropped.Packet _ e)))))
