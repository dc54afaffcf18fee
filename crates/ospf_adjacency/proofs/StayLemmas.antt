-- The neighbours of a link stay in rising Router ID.
use Rattle.std.proofs.Common.{◌≡◌, ◌≢◌, ◌<◌, suc, inl, inr, ℕ, List, [], ◌∷◌, sym, ap, ◌∙◌, subst, arith}
use Rattle.std.specs.List.{AllByRecursion}
use Rattle.std.proofs.lemmas.Bool.Decides.{leb_tells, eqb_tells}
use Rattle.ospf_base.specs.declared.ids.RouterId.{RouterId}
use Rattle.ospf_neighbour.specs.declared.iface.machine.Iface.{Iface}
use Rattle.ospf_neighbour.specs.Neighbour.{NeighbourValue}
use Rattle.ospf_neighbour.specs.Neighbours.{AreNeighboursRising}
use Rattle.ospf_adjacency.specs.Adjacency.{event_taken, number_by}
use Rattle.ospf_adjacency.specs.Elections.{AreOfLink, adjusted}
use Rattle.ospf_adjacency.specs.Heard.{put, hello_effect, turn_of}
use Rattle.ospf_adjacency.specs.HelloLaws.{NeighboursStayOfLink}
use Rattle.ospf_adjacency.specs.Links.{timed}
use Rattle.ospf_adjacency.proofs.Words.{adj_ok_for, is_inactive, sender_of}
use Rattle.ospf_adjacency.proofs.GoLemmas.{adj_ok_router, bool_cases, heard_router}

-- a fact of the Router IDs of all neighbours
abbrev pub AllIds : (ℕ → Type 0) → List NeighbourValue → Type 0
AllIds P ns = AllByRecursion (λ n. P n.router.0) ns

put_all : (P : ℕ → Type 0) (n : NeighbourValue) (ns : List NeighbourValue) → P n.router.0 → AllIds P ns → AllIds P (put n ns)
put_all P n [] p all = (p, tt)
put_all P n (m ∷ ms) p all = elim (leb_tells (suc m.router.0) n.router.0) [
  | inl w ↦ (rw w.0 (all.0, put_all P n ms p all.1))
  | inr w ↦ elim (eqb_tells m.router.0 n.router.0) [ inl e ↦ (rw (w.0, e.0) (p, all.1)) | inr e ↦ (rw (w.0, e.0) (p, (all.0, all.1))) ]
]

above_trans : (q k : ℕ) (ns : List NeighbourValue) → q < k → AllIds (λ r. k < r) ns → AllIds (λ r. q < r) ns
above_trans q k [] lt above = tt
above_trans q k (m ∷ ms) lt above = (omega (arith, above.0), above_trans q k ms lt above.1)

pub put_rises : (n : NeighbourValue) (ns : List NeighbourValue) → AreNeighboursRising ns → AreNeighboursRising (put n ns)
put_rises n [] rises = (tt, tt)
put_rises n (m ∷ ms) rises = elim (leb_tells (suc m.router.0) n.router.0) [
  | inl w ↦ (rw w.0 (put_all (λ r. m.router.0 < r) n ms w.1 rises.0, put_rises n ms rises.1))
  | inr w ↦ elim (eqb_tells m.router.0 n.router.0) [
    | inl e ↦ (rw (w.0, e.0) (subst (λ (k : ℕ). AllIds (λ r. k < r) ms) e.1 rises.0, rises.1))
    | inr e ↦ let lt : n.router.0 < m.router.0 = omega (arith, w.1, e.1) in (rw (w.0, e.0) ((lt, above_trans n.router.0 m.router.0 ms lt rises.0), rises))
  ]
]

timed_all : (P : ℕ → Type 0) (ns : List NeighbourValue) → AllIds P ns → AllIds P (timed ns)
timed_all P [] all = tt
timed_all P (n ∷ ns) all = elim (bool_cases (is_inactive n)) [ inl t ↦ (rw t (timed_all P ns all.1)) | inr f ↦ (rw f (all.0, timed_all P ns all.1)) ]

pub timed_rises : (ns : List NeighbourValue) → AreNeighboursRising ns → AreNeighboursRising (timed ns)
timed_rises [] rises = tt
timed_rises (n ∷ ns) rises = elim (bool_cases (is_inactive n)) [ inl t ↦ (rw t (timed_rises ns rises.1)) | inr f ↦ (rw f (timed_all (λ r. n.router.0 < r) ns rises.0, timed_rises ns rises.1)) ]

same_id : (i : Iface) (tick next : ℕ) (n : NeighbourValue) → n.router.0 ≡ (event_taken (adj_ok_for i n) i.settings.dead next tick n).router.0
same_id i tick next n = sym (ap (λ (r : RouterId). r.0) (adj_ok_router i tick next n))

adjusted_all : (P : ℕ → Type 0) (i : Iface) (tick next : ℕ) (ns : List NeighbourValue) → AllIds P ns → AllIds P (adjusted i tick next ns)
adjusted_all P i tick next [] all = tt
adjusted_all P i tick next (n ∷ ns) all = (subst P (same_id i tick next n) all.0, adjusted_all P i tick (number_by (adj_ok_for i n) n next) ns all.1)

pub adjusted_rises : (i : Iface) (tick next : ℕ) (ns : List NeighbourValue) → AreNeighboursRising ns → AreNeighboursRising (adjusted i tick next ns)
adjusted_rises i tick next [] rises = tt
adjusted_rises i tick next (n ∷ ns) rises =
    let next' = number_by (adj_ok_for i n) n next in
    (subst (λ (k : ℕ). AllIds (λ r. k < r) (adjusted i tick next' ns)) (same_id i tick next n) (adjusted_all (λ r. n.router.0 < r) i tick next' ns rises.0), adjusted_rises i tick next' ns rises.1)

pub stay : NeighboursStayOfLink
stay i ns are = record {
  hello = λ local q source h named other x is.
      let m = (hello_effect i local h named (turn_of (sender_of x.neighbours q source) x)).neighbour in
      let there : AreOfLink i x.neighbours = subst (λ (l : List NeighbourValue). AreOfLink i l) (sym is) are in
      let is_q : m.router.0 ≡ q.0 = heard_router i local q source h named x in
      record {
        rising = put_rises m x.neighbours there.rising;
        others = put_all (λ r. r ≢ i.settings.router.0) m x.neighbours (λ e. other (sym is_q ∙ e)) there.others;
      };
  timers = record { rising = timed_rises ns are.rising; others = timed_all (λ r. r ≢ i.settings.router.0) ns are.others };
  adj_ok = λ j tick next. record { rising = adjusted_rises j tick next ns are.rising; others = adjusted_all (λ r. r ≢ i.settings.router.0) j tick next ns are.others };
}
