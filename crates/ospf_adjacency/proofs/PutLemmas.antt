-- A neighbour that is put among the others.
use Rattle.std.proofs.Common.{◌≡◌, ◌==◌, ◌≢◌, inl, inr, ℕ, suc, ◌<◌, true, false, List, [], ◌∷◌, None, Some, set, insert, refl, ap, arith, slice_get}
use Rattle.std.specs.List.{AllByRecursion}
use Rattle.std.proofs.lemmas.Bool.Decides.{leb_tells}
use Rattle.ospf_base.specs.declared.ids.RouterId.{RouterId}
use Rattle.ospf_neighbour.specs.Neighbour.{NeighbourValue}
use Rattle.ospf_neighbour.specs.Neighbours.{AreNeighboursRising, neighbour_of, place_for}
use Rattle.ospf_adjacency.specs.Heard.{put}

-- at the place of q stands its neighbour
pub found : (ns : List NeighbourValue) (q : RouterId) (e : NeighbourValue) → slice_get ns (place_for ns q.0) ≡ Some e → e.router.0 ≡ q.0 → neighbour_of ns q ≡ Some e
found [] q e there same = absurd cc
found (m ∷ ms) q e there same = elim (leb_tells (suc m.router.0) q.0) [
  | inl lower ↦
      let apart : m.router.0 == q.0 ≡ false = grind arith in
      (rw apart (found ms q e (rw lower.0 at there) same))
  | inr higher ↦
      let here : Some m ≡ Some e = rw higher.0 at there in
      let is : m ≡ e = cc in
      let one : m.router.0 == q.0 ≡ true = grind (arith, ap (λ (x : NeighbourValue). x.router.0) is) in
      (rw one here)
]

-- where those from q on have higher Router IDs, none is q
none_above : (ns : List NeighbourValue) (q : RouterId) → AllByRecursion (λ n. q.0 < n.router.0) ns → neighbour_of ns q ≡ None
none_above [] q above = refl
none_above (m ∷ ms) q above =
    let apart : m.router.0 == q.0 ≡ false = grind (arith, above.0) in
    (rw apart (none_above ms q above.1))

above_trans : (q k : ℕ) (ns : List NeighbourValue) → q < k → AllByRecursion (λ n. k < n.router.0) ns → AllByRecursion (λ n. q < n.router.0) ns
above_trans q k [] lt above = tt
above_trans q k (m ∷ ms) lt above = (omega (arith, above.0), above_trans q k ms lt above.1)

-- at the place of q stands another
pub not_found : (ns : List NeighbourValue) (q : RouterId) → AreNeighboursRising ns → ((e : NeighbourValue) → slice_get ns (place_for ns q.0) ≡ Some e → e.router.0 ≢ q.0) → neighbour_of ns q ≡ None
not_found [] q rises other = refl
not_found (m ∷ ms) q rises other = elim (leb_tells (suc m.router.0) q.0) [
  | inl lower ↦
      let apart : m.router.0 == q.0 ≡ false = grind arith in
      (rw apart (not_found ms q rises.1 (λ e there. other e (rw lower.0 there))))
  | inr higher ↦
      let differs : m.router.0 ≢ q.0 = other m (rw higher.0 refl) in
      let above : q.0 < m.router.0 = omega (arith, differs) in
      let apart : m.router.0 == q.0 ≡ false = grind arith in
      (rw apart (none_above ms q (above_trans q.0 m.router.0 ms above rises.0)))
]

-- one is put in place of another of its Router ID
pub put_found : (ns : List NeighbourValue) (n e : NeighbourValue) → slice_get ns (place_for ns n.router.0) ≡ Some e → e.router.0 ≡ n.router.0 → put n ns ≡ set ns (place_for ns n.router.0) n
put_found [] n e there same = absurd cc
put_found (m ∷ ms) n e there same = elim (leb_tells (suc m.router.0) n.router.0) [
  | inl lower ↦ (rw lower.0 (ap (λ rest. m ∷ rest) (put_found ms n e (rw lower.0 at there) same)))
  | inr higher ↦
      let here : Some m ≡ Some e = rw higher.0 at there in
      let is : m ≡ e = cc in
      let one : m.router.0 == n.router.0 ≡ true = grind (arith, ap (λ (x : NeighbourValue). x.router.0) is) in
      (rw (higher.0, one) refl)
]

-- or between the others
pub put_new : (ns : List NeighbourValue) (n : NeighbourValue) → ((e : NeighbourValue) → slice_get ns (place_for ns n.router.0) ≡ Some e → e.router.0 ≢ n.router.0) → put n ns ≡ insert ns (place_for ns n.router.0) n
put_new [] n other = refl
put_new (m ∷ ms) n other = elim (leb_tells (suc m.router.0) n.router.0) [
  | inl lower ↦ (rw lower.0 (ap (λ rest. m ∷ rest) (put_new ms n (λ e there. other e (rw lower.0 there)))))
  | inr higher ↦
      let differs : m.router.0 ≢ n.router.0 = other m (rw higher.0 refl) in
      let apart : m.router.0 == n.router.0 ≡ false = grind arith in
      (rw (higher.0, apart) refl)
]
