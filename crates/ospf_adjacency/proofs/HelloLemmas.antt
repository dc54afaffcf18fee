-- A Hello of a neighbour that was known, and of a new one.
use Rattle.std.proofs.Common.{◌≡◌, ◌≢◌, ℕ, Bool, false, List, Some, set, insert, sym, ap, ◌∙◌, slice_get, unwrap_or, arith, rules}
use Rattle.std.proofs.lemmas.Grind.{common_steps}
use Rattle.ospf_base.specs.declared.ids.Addr.{Addr}
use Rattle.ospf_base.specs.declared.ids.RouterId.{RouterId}
use Rattle.ospf_neighbour.specs.declared.iface.machine.Iface.{Iface}
use Rattle.ospf_neighbour.specs.Neighbour.{NeighbourValue, new_neighbour}
use Rattle.ospf_neighbour.specs.Neighbours.{AreNeighboursRising, place_for}
use Rattle.ospf_packet.specs.declared.body.Hello.{Hello}
use Rattle.ospf_exchange.specs.declared.rule.Local.{Local}
use Rattle.ospf_area.specs.Turns.{Turn, turn}
use Rattle.ospf_area.specs.Outboxes.{OutboxValue}
use Rattle.ospf_adjacency.specs.Heard.{Neighbourhood, neighbourhood, turn_of, put_back, receive_hello, hello_effect, elects_by_hello, put}
use Rattle.ospf_adjacency.proofs.Words.{sender_of}
use Rattle.ospf_adjacency.proofs.PutLemmas.{found, not_found, put_found, put_new}

-- a Hello makes no other neighbour of one
pub same_router : (i : Iface) (local : Local) (h : Hello) (named : Bool) (t : Turn) → (hello_effect i local h named t).neighbour.router ≡ t.neighbour.router
same_router i local h named t = first_of (search rules, grind (arith, common_steps))

-- a Hello of this neighbour
abbrev hello_by : Iface → Local → Hello → Bool → NeighbourValue → Neighbourhood → Neighbourhood
hello_by i local h named n x = put_back (elects_by_hello i.state n (hello_effect i local h named (turn_of n x)).neighbour) (hello_effect i local h named (turn_of n x)) x

-- the neighbours after its turn
by_turn : (i : Iface) (local : Local) (h : Hello) (named : Bool) (x : Neighbourhood) (e : NeighbourValue) (t : Turn) (elects : Bool)
    → t ≡ hello_effect i local h named (turn_of e x) → elects ≡ elects_by_hello i.state e t.neighbour
    → put_back elects t x ≡ hello_by i local h named e x
by_turn i local h named x e t elects is due =
    ap (λ b. put_back b t x) due ∙ ap (λ (u : Turn). put_back (elects_by_hello i.state e u.neighbour) u x) is

router_of : (i : Iface) (local : Local) (h : Hello) (named : Bool) (x : Neighbourhood) (e : NeighbourValue) (t : Turn) (q : RouterId)
    → t ≡ hello_effect i local h named (turn_of e x) → e.router ≡ q → t.neighbour.router ≡ q
router_of i local h named x e t q is e_is = ap (λ (u : Turn). u.neighbour.router) is ∙ same_router i local h named (turn_of e x) ∙ e_is

pub hello_found : (i : Iface) (local : Local) (q : RouterId) (source : Addr) (h : Hello) (named : Bool) (ns : List NeighbourValue) (p p' : OutboxValue) (k : ℕ) (e m : NeighbourValue) (elects : Bool)
    → k ≡ place_for ns q.0 → slice_get ns k ≡ Some e → e.router ≡ q
    → turn m p' ≡ hello_effect i local h named (turn e p) → elects ≡ elects_by_hello i.state e m
    → neighbourhood (set ns k m) elects p' ≡ receive_hello i local q source h named (neighbourhood ns false p)
hello_found i local q source h named ns p p' k e m elects at there e_is is due =
    let x = neighbourhood ns false p in
    let t = turn m p' in
    let m_is : m.router ≡ q = router_of i local h named x e t q is e_is in
    let place : k ≡ place_for ns m.router.0 = at ∙ ap (λ (r : RouterId). place_for ns r.0) (sym m_is) in
    let there_m : slice_get ns (place_for ns m.router.0) ≡ Some e = ap (slice_get ns) (sym place) ∙ there in
    let sender : sender_of ns q source ≡ e = ap (λ o. unwrap_or o (new_neighbour q source)) (found ns q e (ap (slice_get ns) (sym at) ∙ there) (ap (λ (r : RouterId). r.0) e_is)) in
    let there_is : set ns k m ≡ put m ns = ap (λ (j : ℕ). set ns j m) place ∙ sym (put_found ns m e there_m (ap (λ (r : RouterId). r.0) (e_is ∙ sym m_is))) in
    ap (λ (l : List NeighbourValue). neighbourhood l elects p') there_is
    ∙ by_turn i local h named x e t elects is due
    ∙ ap (λ (n : NeighbourValue). hello_by i local h named n x) (sym sender)

pub hello_new : (i : Iface) (local : Local) (q : RouterId) (source : Addr) (h : Hello) (named : Bool) (ns : List NeighbourValue) (p p' : OutboxValue) (k : ℕ) (e m : NeighbourValue) (elects : Bool)
    → AreNeighboursRising ns → k ≡ place_for ns q.0 → ((o : NeighbourValue) → slice_get ns k ≡ Some o → o.router ≢ q) → e ≡ new_neighbour q source
    → turn m p' ≡ hello_effect i local h named (turn e p) → elects ≡ elects_by_hello i.state e m
    → neighbourhood (insert ns k m) elects p' ≡ receive_hello i local q source h named (neighbourhood ns false p)
hello_new i local q source h named ns p p' k e m elects rises at other e_is is due =
    let x = neighbourhood ns false p in
    let t = turn m p' in
    let m_is : m.router ≡ q = router_of i local h named x e t q is (ap (λ (n : NeighbourValue). n.router) e_is) in
    let place : k ≡ place_for ns m.router.0 = at ∙ ap (λ (r : RouterId). place_for ns r.0) (sym m_is) in
    let other_q : (o : NeighbourValue) → slice_get ns (place_for ns q.0) ≡ Some o → o.router.0 ≢ q.0 = λ o there same. other o (ap (slice_get ns) at ∙ there) (λ j. record { 0 = same j }) in
    let other_m : (o : NeighbourValue) → slice_get ns (place_for ns m.router.0) ≡ Some o → o.router.0 ≢ m.router.0 =
    λ o there same. other o (ap (slice_get ns) place ∙ there) (λ j. record { 0 = (same ∙ ap (λ (r : RouterId). r.0) m_is) j }) in
    let sender : sender_of ns q source ≡ e = ap (λ o. unwrap_or o (new_neighbour q source)) (not_found ns q rises other_q) ∙ sym e_is in
    let there_is : insert ns k m ≡ put m ns = ap (λ (j : ℕ). insert ns j m) place ∙ sym (put_new ns m other_m) in
    ap (λ (l : List NeighbourValue). neighbourhood l elects p') there_is
    ∙ by_turn i local h named x e t elects is due
    ∙ ap (λ (n : NeighbourValue). hello_by i local h named n x) (sym sender)
