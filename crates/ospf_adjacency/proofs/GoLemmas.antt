-- The neighbour of each Router ID, before and after.
use Rattle.std.proofs.Common.{◌≡◌, ◌==◌, ◌<◌, ◌⊎◌, inl, inr, ℕ, Bool, true, false, List, [], ◌∷◌, Option, None, Some, refl, sym, ap, ◌∙◌, subst, unwrap_or, arith, rules}
use Rattle.std.specs.List.{AllByRecursion}
use Rattle.std.proofs.lemmas.Grind.{common_steps}
use Rattle.std.proofs.lemmas.Bool.Decides.{eqb_tells, nat_tests}
use Rattle.ospf_base.specs.declared.ids.Addr.{Addr}
use Rattle.ospf_base.specs.declared.ids.RouterId.{RouterId}
use Rattle.ospf_neighbour.specs.declared.iface.machine.Iface.{Iface}
use Rattle.ospf_neighbour.specs.Machine.{is_exchanging}
use Rattle.ospf_neighbour.specs.Neighbour.{NeighbourValue, new_neighbour}
use Rattle.ospf_neighbour.specs.Neighbours.{neighbour_of}
use Rattle.ospf_packet.specs.declared.body.Hello.{Hello}
use Rattle.ospf_exchange.specs.declared.rule.Local.{Local}
use Rattle.ospf_adjacency.specs.Adjacency.{event_taken, number_by}
use Rattle.ospf_area.specs.Turns.{Turn}
use Rattle.ospf_adjacency.specs.Laws.{KeepsLists, NoLists, NeverEnters}
use Rattle.ospf_adjacency.specs.Heard.{Neighbourhood, turn_of, hello_effect, put}
use Rattle.ospf_adjacency.specs.HelloLaws.{KeepsOrLosesLists, PutsOne, HelloGoes, TimersGo, AdjOkGoes}
use Rattle.ospf_adjacency.specs.Links.{timed}
use Rattle.ospf_adjacency.proofs.Words.{adj_ok_for, is_inactive, sender_of}
use Rattle.ospf_adjacency.proofs.HelloLemmas.{same_router}

pub bool_cases : (b : Bool) → (b ≡ true) ⊎ (b ≡ false)
bool_cases true = inl refl
bool_cases false = inr refl

pub puts_one : PutsOne
puts_one n [] q = grind arith
puts_one n (m ∷ ms) q = grind (arith, nat_tests, puts_one n ms q)

-- ---- one neighbour

hello_keeps : (i : Iface) (local : Local) (h : Hello) (named : Bool) (t : Turn) → KeepsLists t.neighbour (hello_effect i local h named t).neighbour
hello_keeps i local h named t = first_of (search rules, grind (arith, common_steps))

hello_enters : (i : Iface) (local : Local) (h : Hello) (named : Bool) (t : Turn) → NeverEnters t.neighbour (hello_effect i local h named t).neighbour
hello_enters i local h named t = first_of (search rules, grind (arith, common_steps))

adj_ok_keeps : (i : Iface) (tick next : ℕ) (n : NeighbourValue) → KeepsLists n (event_taken (adj_ok_for i n) i.settings.dead next tick n)
adj_ok_keeps i tick next n = first_of (search rules, grind (arith, common_steps))

adj_ok_enters : (i : Iface) (tick next : ℕ) (n : NeighbourValue) → NeverEnters n (event_taken (adj_ok_for i n) i.settings.dead next tick n)
adj_ok_enters i tick next n = first_of (search rules, grind (arith, common_steps))

pub adj_ok_router : (i : Iface) (tick next : ℕ) (n : NeighbourValue) → (event_taken (adj_ok_for i n) i.settings.dead next tick n).router ≡ n.router
adj_ok_router i tick next n = first_of (search rules, grind (arith, common_steps))

goes_same : (o : Option NeighbourValue) → KeepsOrLosesLists o o
goes_same None = tt
goes_same (Some n) = (inl (record { summary = refl; last_dd = refl; requests = refl; retransmission = refl }), (λ is. is))

-- ---- a Hello

-- a new neighbour keeps that it has no lists
new_has_none : (q : RouterId) (source : Addr) (m : NeighbourValue) → KeepsLists (new_neighbour q source) m → NeverEnters (new_neighbour q source) m → NoLists m × (is_exchanging m.state ≡ false)
new_has_none q source m (inl same) enters = (
  record { summary = same.summary; last_dd = same.last_dd; requests = same.requests; retransmission = same.retransmission },
  elim (bool_cases (is_exchanging m.state)) [ inl is ↦ absurd (let no = enters is in cc) | inr is ↦ is ],
)
new_has_none q source m (inr gone) enters = gone

goes_to : (q : RouterId) (source : Addr) (o : Option NeighbourValue) (m : NeighbourValue) → KeepsLists (unwrap_or o (new_neighbour q source)) m → NeverEnters (unwrap_or o (new_neighbour q source)) m → KeepsOrLosesLists o (Some m)
goes_to q source None m keeps enters = new_has_none q source m keeps enters
goes_to q source (Some n) m keeps enters = (keeps, enters)

-- the neighbour found has the Router ID
found_router : (ns : List NeighbourValue) (q : RouterId) (m : NeighbourValue) → neighbour_of ns q ≡ Some m → m.router.0 ≡ q.0
found_router [] q m e = absurd cc
found_router (n ∷ ns) q m e = elim (eqb_tells n.router.0 q.0) [
  | inl w ↦ let f : Some n ≡ Some m = rw w.0 at e in let same : n ≡ m = cc in ap (λ (x : NeighbourValue). x.router.0) (sym same) ∙ w.1
  | inr w ↦ found_router ns q m (rw w.0 at e)
]

sender_router : (q : RouterId) (source : Addr) (o : Option NeighbourValue) → ((m : NeighbourValue) → o ≡ Some m → m.router.0 ≡ q.0) → (unwrap_or o (new_neighbour q source)).router.0 ≡ q.0
sender_router q source None f = refl
sender_router q source (Some m) f = f m refl

pub heard_router : (i : Iface) (local : Local) (q : RouterId) (source : Addr) (h : Hello) (named : Bool) (x : Neighbourhood) → (hello_effect i local h named (turn_of (sender_of x.neighbours q source) x)).neighbour.router.0 ≡ q.0
heard_router i local q source h named x =
    ap (λ (r : RouterId). r.0) (same_router i local h named (turn_of (sender_of x.neighbours q source) x)) ∙ sender_router q source (neighbour_of x.neighbours q) (found_router x.neighbours q)

pub hello_goes : HelloGoes
hello_goes i local q source h named x p =
    let t = turn_of (sender_of x.neighbours q source) x in
    let m = (hello_effect i local h named t).neighbour in
    let is_q : m.router.0 ≡ q.0 = heard_router i local q source h named x in
    elim (eqb_tells m.router.0 p.0) [
      | inl w ↦
          let there : neighbour_of (put m x.neighbours) p ≡ Some m = rw w.0 at (puts_one m x.neighbours p) in
          let one : q ≡ p = (λ j. record { 0 = (sym is_q ∙ w.1) j }) in
          let goes : KeepsOrLosesLists (neighbour_of x.neighbours q) (Some m) = goes_to q source (neighbour_of x.neighbours q) m (hello_keeps i local h named t) (hello_enters i local h named t) in
          let at_p : KeepsOrLosesLists (neighbour_of x.neighbours p) (Some m) = subst (λ (r : RouterId). KeepsOrLosesLists (neighbour_of x.neighbours r) (Some m)) one goes in
          (rw there at_p)
      | inr w ↦
          let there : neighbour_of (put m x.neighbours) p ≡ neighbour_of x.neighbours p = rw w.0 at (puts_one m x.neighbours p) in
          (rw there (goes_same (neighbour_of x.neighbours p)))
    ]

-- ---- AdjOK?

pub adj_ok_goes : AdjOkGoes
adj_ok_goes i tick next [] p = tt
adj_ok_goes i tick next (n ∷ ns) p =
    let m = event_taken (adj_ok_for i n) i.settings.dead next tick n in
    let same : m.router.0 ≡ n.router.0 = ap (λ (r : RouterId). r.0) (adj_ok_router i tick next n) in
    elim (eqb_tells n.router.0 p.0) [
      | inl w ↦ let e : m.router.0 == p.0 ≡ true = ap (λ (k : ℕ). k == p.0) same ∙ w.0 in (rw (w.0, e) (adj_ok_keeps i tick next n, adj_ok_enters i tick next n))
      | inr w ↦ let e : m.router.0 == p.0 ≡ false = ap (λ (k : ℕ). k == p.0) same ∙ w.0 in (rw (w.0, e) (adj_ok_goes i tick (number_by (adj_ok_for i n) n next) ns p))
    ]

-- ---- timers

none_above : (ns : List NeighbourValue) (q : RouterId) → AllByRecursion (λ n. q.0 < n.router.0) ns → neighbour_of (timed ns) q ≡ None
none_above [] q above = refl
none_above (n ∷ ns) q above =
    let apart : n.router.0 == q.0 ≡ false = grind (arith, above.0) in
    elim (bool_cases (is_inactive n)) [ inl t ↦ (rw t (none_above ns q above.1)) | inr f ↦ (rw (f, apart) (none_above ns q above.1)) ]

goes_none : (o : Option NeighbourValue) → KeepsOrLosesLists o None
goes_none None = tt
goes_none (Some n) = tt

pub timers_go : TimersGo
timers_go [] p rises = tt
timers_go (n ∷ ns) p rises = elim (eqb_tells n.router.0 p.0) [
  | inl w ↦ elim (bool_cases (is_inactive n)) [
    | inl t ↦
        let gone : neighbour_of (timed ns) p ≡ None = none_above ns p (subst (λ (k : ℕ). AllByRecursion (λ (o : NeighbourValue). k < o.router.0) ns) w.1 rises.0) in
        (rw (w.0, t, gone) tt)
    | inr f ↦ (rw (w.0, f, w.0) (inl (record { summary = refl; last_dd = refl; requests = refl; retransmission = refl }), (λ is. is)))
  ]
  | inr w ↦ elim (bool_cases (is_inactive n)) [
    | inl t ↦ (rw (w.0, t) (timers_go ns p rises.1))
    | inr f ↦ (rw (w.0, f, w.0) (timers_go ns p rises.1))
  ]
]
