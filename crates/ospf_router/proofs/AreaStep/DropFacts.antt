-- What is known of a packet that is not dropped, and of its sender.
use Rattle.std.proofs.Common.{◌≡◌, ◌≢◌, ◌==◌, ℕ, Bool, true, false, not, List, [], ◌∷◌, Option, None, Some, if◌then◌else◌, is_some, length, slice_get, refl, sym, ap, subst, ◌∙◌, ◌&&◌, bit_and}
use Rattle.std.proofs.lemmas.Bool.{true≢false}
use Rattle.std.proofs.lemmas.Option.{none-some, same_Some}
use Rattle.ospf_base.specs.declared.ids.AreaId.{AreaId}
use Rattle.ospf_base.specs.declared.ids.Addr.{Addr}
use Rattle.ospf_base.specs.declared.ids.RouterId.{RouterId}
use Rattle.ospf_base.specs.declared.interface.InterfaceKind.{InterfaceKind}
use Rattle.ospf_base.specs.declared.interface.InterfaceKind.TheVariants.{PointToPoint, Broadcast}
use Rattle.ospf_exchange.specs.declared.rule.Local.{Local}
use Rattle.ospf_neighbour.specs.declared.iface.machine.Iface.{Iface}
use Rattle.ospf_neighbour.specs.Machine.{is_exchanging}
use Rattle.ospf_neighbour.specs.Neighbour.{NeighbourValue, is_empty}
use Rattle.ospf_neighbour.specs.Neighbours.{at_address, neighbour_of}
use Rattle.ospf_packet.specs.Meaning.{BodyMeaning, Meaning, hello, description, request, update, acknowledgment}
use Rattle.ospf_adjacency.specs.Adjacency.{is_broadcast}
use Rattle.ospf_area.specs.Sending.{context_of}
use Rattle.ospf_area.specs.State.{AreaValue, LinkValue}
use Rattle.ospf_neighbour.specs.Interface.Hello.{agrees}
use Rattle.ospf_router.specs.AreaStep.Receipt.{drop_by_body, drop_of_hello, drop_of_packet, is_destination, sender_in}
use Rattle.ospf_router.specs.AreaStep.Senders.{CanBeTaken, NotDroppedIsTaken}
use Rattle.ospf_router.specs.declared.step.dropped.Dropped.{Dropped}
use Rattle.ospf_router.specs.declared.step.dropped.Dropped.TheVariants as dropped
use Rattle.ospf_neighbour.specs.Interface.Machine.{is_down}
use Rattle.ospf_router.specs.AreaStep.Fit.{IsFitRouter, IsFitLink}
use Rattle.ospf_router.specs.AreaStep.Ready.{CanTakePacket, CanTakeOn}
use Rattle.ospf_router.specs.AreaStep.Takes.{source_of}
use Rattle.ospf_router.proofs.AreaStep.FitLemmas.{eq_false, all_at}
use Rattle.ospf_router.proofs.AreaStep.StepFit.{CanCome}
use Rattle.ospf_area.specs.Outboxes.{local_by}

-- a cause that does not apply
peel : (b : Bool) (d : Dropped) (rest : Option Dropped) → (if b then Some d else rest) ≡ None → (b ≡ false) × (rest ≡ None)
peel true d rest is = absurd (none-some d (sym is))
peel false d rest is = (refl, is)

holds : (b : Bool) (d : Dropped) (rest : Option Dropped) → (if b then rest else Some d) ≡ None → (b ≡ true) × (rest ≡ None)
holds true d rest is = (refl, is)
holds false d rest is = absurd (none-some d (sym is))

-- it is no packet of the router's own, and what it says is taken
pub record IsHeard (local : Local) (i : Iface) (ns : List NeighbourValue) (source : Addr) (m : Meaning) : Type 0 where
  pub other : m.router.0 ≢ i.settings.router.0
  pub body : drop_by_body local m.body i ns m.router (sender_in i ns m.router source) ≡ None

pub heard : (local : Local) (i : Iface) (ns : List NeighbourValue) (area : AreaId) (source destination : Addr) (m : Meaning) → drop_of_packet local i ns area source destination m ≡ None → IsHeard local i ns source m
heard local i ns area source destination m is =
    let up = peel (is_down i.state) dropped.Packet _ is in
    let same = peel (not (m.area.0 == area.0)) dropped.Area _ up.1 in
    let own = peel (m.router.0 == i.settings.router.0) dropped.OwnPacket _ same.1 in
    let here = peel (not (is_destination i destination)) dropped.Destination _ own.1 in
    let near = peel (is_broadcast i && not (bit_and source.0 i.settings.mask == bit_and i.settings.address.0 i.settings.mask)) dropped.Subnet _ here.1 in
    record { other = eq_false m.router.0 i.settings.router.0 own.0; body = near.1 }

-- ---- Hellos

-- on a link of two ends a new neighbour is the only one
no_length : (ns : List NeighbourValue) → not (is_empty ns) ≡ false → length ns ≡ 0
no_length [] is = refl
no_length (n ∷ ns) is = absurd (true≢false is)

pub alone : (i : Iface) (ns : List NeighbourValue) (q : RouterId) (source : Addr) → i.settings.kind ≡ PointToPoint → neighbour_of ns q ≡ None → drop_of_hello i ns q (sender_in i ns q source) ≡ None → length ns ≡ 0
alone i ns q source kind none is =
    let by_ends : is_broadcast i ≡ false = ap (λ (k : InterfaceKind). elim k [ PointToPoint ↦ false | Broadcast ↦ true ]) kind in
    let sender : sender_in i ns q source ≡ None = ap (λ (b : Bool). if b then at_address ns source else neighbour_of ns q) by_ends ∙ none in
    let new : drop_of_hello i ns q None ≡ None = subst (λ (o : Option NeighbourValue). drop_of_hello i ns q o ≡ None) sender is in
    let here = peel (if is_broadcast i then is_some (neighbour_of ns q) else not (is_empty ns)) dropped.WrongRouter _ new in
    no_length ns (subst (λ (b : Bool). (if b then is_some (neighbour_of ns q) else not (is_empty ns)) ≡ false) by_ends here.0)

-- ---- what it needs

-- why a datagram is dropped that comes on a link
abbrev drop_on : Option LinkValue → AreaValue → Addr → Addr → Option Meaning → Option Dropped
drop_on o s source destination packet = elim o [
  | None ↦ Some dropped.Packet
  | Some there ↦ elim packet [
    | None ↦ Some dropped.Packet
    | Some m ↦ drop_of_packet (local_by (context_of s) there.settings) there.iface there.neighbours s.area source destination m
  ]
]

-- a datagram that is not dropped is a packet that is not
pub not_dropped_as : (s : AreaValue) (link : ℕ) (source destination : Addr) (o : Option Meaning) (m : Meaning) → o ≡ Some m → drop_on (slice_get s.links link) s source destination o ≡ None
    → drop_on (slice_get s.links link) s source destination (Some m) ≡ None
not_dropped_as s link source destination o m is taken = subst (λ (x : Option Meaning). drop_on (slice_get s.links link) s source destination x ≡ None) is taken

module _ (law : NotDroppedIsTaken) (s : AreaValue) (link : ℕ) (source destination : Addr) (m : Meaning) (fit : IsFitRouter s) (is : drop_on (slice_get s.links link) s source destination (Some m) ≡ None) where
  packet_is : (a : LinkValue) → slice_get s.links link ≡ Some a → drop_of_packet (local_by (context_of s) a.settings) a.iface a.neighbours s.area source destination m ≡ None
  packet_is a at = subst (λ (o : Option LinkValue). drop_on o s source destination (Some m) ≡ None) at is

  taken : (a : LinkValue) → slice_get s.links link ≡ Some a → CanBeTaken (local_by (context_of s) a.settings) a.neighbours m.router m.body
  taken a at = law (local_by (context_of s) a.settings) a.iface a.neighbours s.area source destination m (all_at (IsFitLink s.router) s.links link a fit.links at).neighbours.rising (packet_is a at)

  pub can_take : CanTakePacket (source_of link source m) m.body s
  can_take a at = by_body m.body (taken a at)
    where
      by_body : (b : BodyMeaning) → CanBeTaken (local_by (context_of s) a.settings) a.neighbours m.router b → CanTakeOn b (source_of link source m) a
      by_body (hello fields names) can = can
      by_body (description fields headers) can = tt
      by_body (request entries) (n, found, exchanging) = λ other there. subst (λ (x : NeighbourValue). is_exchanging x.state ≡ true) (same_Some n other (sym found ∙ there)) exchanging
      by_body (update lsas) can = tt
      by_body (acknowledgment headers) can = tt

  pub can_come : (a : LinkValue) → slice_get s.links link ≡ Some a → CanCome m.body (source_of link source m) a
  can_come a at = by_body m.body (heard (local_by (context_of s) a.settings) a.iface a.neighbours s.area source destination m (packet_is a at)).body (taken a at)
    where
      by_body : (b : BodyMeaning) → drop_by_body (local_by (context_of s) a.settings) b a.iface a.neighbours m.router (sender_in a.iface a.neighbours m.router source) ≡ None → CanBeTaken (local_by (context_of s) a.settings) a.neighbours m.router b
          → CanCome b (source_of link source m) a
      by_body (hello fields names) none can = record {
        other = (heard (local_by (context_of s) a.settings) a.iface a.neighbours s.area source destination m (packet_is a at)).other;
        room = can;
        alone = λ kind unknown. alone a.iface a.neighbours m.router source kind unknown (holds (agrees a.iface fields) dropped.HelloMismatch _ none).1;
      }
      by_body (description fields headers) none can = tt
      by_body (request entries) none can = tt
      by_body (update lsas) none can = tt
      by_body (acknowledgment headers) none can = tt
