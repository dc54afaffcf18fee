-- The neighbours of a link after a Hello and after its timers.
use Rattle.std.proofs.Common.{◌≡◌, ◌≢◌, ◌<◌, ◌≤◌, ◌+◌, ℕ, Bool, false, List, [], ◌∷◌, Option, None, Some, length, refl, sym, ap, ◌∙◌, subst, slice_get, inl, inr, arith, length-set}
use Rattle.std.proofs.lemmas.Bool.Decides.{eqb_tells}
use Rattle.std.proofs.lemmas.List.Edits.{length-insert}
use Rattle.ospf_base.specs.declared.ids.Addr.{Addr}
use Rattle.ospf_base.specs.declared.ids.RouterId.{RouterId}
use Rattle.ospf_neighbour.specs.Interface.Machine.{is_changed}
use Rattle.ospf_adjacency.specs.Elections.{ElectsOn, adjusted}
use Rattle.ospf_area.specs.Packets.{PendingPacket}
use Rattle.ospf_adjacency.proofs.ElectionLemmas.{length-adjusted}
use Rattle.ospf_adjacency.proofs.StayLemmas.{adjusted_rises}
use Rattle.std.proofs.Common.{if◌then◌else◌, true, false}
use Rattle.ospf_neighbour.specs.declared.iface.machine.Iface.{Iface}
use Rattle.ospf_neighbour.specs.Neighbour.{NeighbourValue}
use Rattle.ospf_neighbour.specs.Neighbours.{AreNeighbours, AreNeighboursRising, neighbour_of, place_for}
use Rattle.ospf_packet.specs.declared.body.Hello.{Hello}
use Rattle.ospf_exchange.specs.declared.rule.Local.{Local}
use Rattle.ospf_adjacency.specs.Heard.{Neighbourhood, receive_hello, hello_effect, turn_of, put}
use Rattle.ospf_adjacency.specs.Links.{timed}
use Rattle.ospf_adjacency.proofs.Words.{is_inactive, sender_of}
use Rattle.ospf_adjacency.proofs.GoLemmas.{bool_cases, heard_router}
use Rattle.ospf_neighbour.proofs.NeighbourLemmas.{place_within}
use Rattle.ospf_adjacency.proofs.PutLemmas.{not_found, put_found, put_new}
use Rattle.ospf_adjacency.proofs.StayLemmas.{put_rises, timed_rises}

-- one more at most, and none where one is put in place of another
few_new : (n : NeighbourValue) (ns : List NeighbourValue) → length ns < 255 → ((e : NeighbourValue) → slice_get ns (place_for ns n.router.0) ≡ Some e → e.router.0 ≢ n.router.0) → length (put n ns) ≤ 255
few_new n ns lt other =
    let longer : length (put n ns) ≡ length ns + 1 = ap (λ (l : List NeighbourValue). length l) (put_new ns n other) ∙ length-insert ns (place_for ns n.router.0) n (place_within ns n.router.0) in
    omega (arith, longer, lt)

pub few_by : (n : NeighbourValue) (ns : List NeighbourValue) → AreNeighboursRising ns → length ns ≤ 255 → (neighbour_of ns n.router ≡ None → length ns < 255) → (o : Option NeighbourValue) → o ≡ slice_get ns (place_for ns n.router.0) → length (put n ns) ≤ 255
few_by n ns rises few room None is =
    let other : (e : NeighbourValue) → slice_get ns (place_for ns n.router.0) ≡ Some e → e.router.0 ≢ n.router.0 = λ e there same. absurd (let no : None ≡ Some e = is ∙ there in cc) in
    few_new n ns (room (not_found ns n.router rises other)) other
few_by n ns rises few room (Some e) is = elim (eqb_tells e.router.0 n.router.0) [
  | inl w ↦
      let longer : length (put n ns) ≡ length ns = ap (λ (l : List NeighbourValue). length l) (put_found ns n e (sym is) w.1) ∙ length-set ns (place_for ns n.router.0) n in
      omega (arith, longer, few)
  | inr w ↦
      let other : (f : NeighbourValue) → slice_get ns (place_for ns n.router.0) ≡ Some f → f.router.0 ≢ n.router.0 = λ f there same.
      let one : Some e ≡ Some f = is ∙ there in let same_one : e ≡ f = cc in w.1 (ap (λ (m : NeighbourValue). m.router.0) same_one ∙ same) in
      few_new n ns (room (not_found ns n.router rises other)) other
]

pub hello_stays : (i : Iface) (local : Local) (q : RouterId) (source : Addr) (h : Hello) (named : Bool) (x : Neighbourhood) → AreNeighbours x.neighbours → (neighbour_of x.neighbours q ≡ None → length x.neighbours < 255)
    → AreNeighbours (receive_hello i local q source h named x).neighbours
hello_stays i local q source h named x are room =
    let m = (hello_effect i local h named (turn_of (sender_of x.neighbours q source) x)).neighbour in
    let is_q : m.router ≡ q = (λ j. record { 0 = heard_router i local q source h named x j }) in
    record {
      rising = put_rises m x.neighbours are.rising;
      few = few_by m x.neighbours are.rising are.few (subst (λ (r : RouterId). neighbour_of x.neighbours r ≡ None → length x.neighbours < 255) (sym is_q) room) (slice_get x.neighbours (place_for x.neighbours m.router.0)) refl;
    }

timed_few : (ns : List NeighbourValue) → length (timed ns) ≤ length ns
timed_few [] = omega arith
timed_few (n ∷ ns) = elim (bool_cases (is_inactive n)) [ inl t ↦ (rw t (omega (arith, timed_few ns))) | inr f ↦ (rw f (omega (arith, timed_few ns))) ]

pub timed_stays : (ns : List NeighbourValue) → AreNeighbours ns → AreNeighbours (timed ns)
timed_stays ns are = record { rising = timed_rises ns are.rising; few = omega (arith, timed_few ns, are.few) }

-- ---- an election

adjusted_stays : (i : Iface) (tick next : ℕ) (ns : List NeighbourValue) → AreNeighbours ns → AreNeighbours (adjusted i tick next ns)
adjusted_stays i tick next ns are = record { rising = adjusted_rises i tick next ns are.rising; few = omega (arith, length-adjusted i tick next ns, are.few) }

if_stays : (b : Bool) (xs ys : List NeighbourValue) → AreNeighbours xs → AreNeighbours ys → AreNeighbours (if b then xs else ys)
if_stays true xs ys p q = p
if_stays false xs ys p q = q

pub elected_stays : (mtu tick next next' : ℕ) (i i' : Iface) (ns ns' : List NeighbourValue) (sent : List PendingPacket) → ElectsOn mtu tick i ns next sent i' ns' next' → AreNeighbours ns → AreNeighbours ns'
elected_stays mtu tick next next' i i' ns ns' sent elects are =
    subst AreNeighbours (sym elects.neighbours) (if_stays (is_changed i elects.result) (adjusted i' tick next ns) ns (adjusted_stays i' tick next ns are) are)
