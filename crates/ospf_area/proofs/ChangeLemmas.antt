-- One neighbour of one link changes.
use Rattle.std.proofs.Common.{◌≡◌, ◌≢◌, ◌==◌, ◌||◌, ◌<◌, ◌≤◌, ◌∷◌, ◌++◌, ◌∙◌, ℕ, suc, zero, Bool, true, false, List, [], None, Some, length, map, set, get_or, refl, sym, ap, arith}
use Rattle.std.specs.List.{AllByRecursion, list_any}
use Rattle.std.proofs.lemmas.List.Quantifiers.{position-Some}
use Rattle.ospf_base.specs.declared.ids.RouterId.{RouterId}
use Rattle.ospf_lsa.specs.declared.header.LsaHeader.{LsaHeader}
use Rattle.ospf_neighbour.specs.Neighbour.{NeighbourValue}
use Rattle.ospf_neighbour.specs.Neighbours.{AreNeighboursRising, neighbour_place}
use Rattle.ospf_neighbour.proofs.KeyLemmas.{nowhere}
use Rattle.ospf_area.specs.Changes.{changed_at, delayed_at, neighbour_changed}
use Rattle.ospf_area.specs.State.{LinkValue}
use Rattle.ospf_area.specs.declared.changes.AdjacencyChange.{AdjacencyChange}
use Rattle.ospf_area.specs.declared.flooding.PacketSource.{PacketSource}
use Rattle.ospf_area.proofs.PlaceLemmas.{map_from_none, map_from_one}
use Rattle.ospf_area.proofs.Words.{changed_link, changed_on, delayed_on, changed_if}

-- ---- one link

change_stays : (f : PacketSource) (change : AdjacencyChange) (tick l : ℕ) (link : LinkValue) → l ≢ f.link → changed_on f change tick l link ≡ link
change_stays f change tick l link other =
    let apart : (l == f.link) ≡ false = grind arith in
    rw apart refl

change_here : (f : PacketSource) (change : AdjacencyChange) (tick : ℕ) (link : LinkValue) → changed_link f.router change tick link ≡ changed_on f change tick f.link link
change_here f change tick link =
    let same : (f.link == f.link) ≡ true = grind arith in
    rw same refl

-- the link of the origin changes
pub changes_there : (f : PacketSource) (change : AdjacencyChange) (tick : ℕ) (links : List LinkValue) (x y : LinkValue) → f.link < length links → x ≡ get_or links f.link x → y ≡ changed_link f.router change tick (get_or links f.link x)
    → set links f.link y ≡ changed_at f change tick links
changes_there f change tick links x y lt here is =
    map_from_one (changed_on f change tick) f.link links x y (change_stays f change tick) lt here (is ∙ ap (changed_link f.router change tick) (sym here) ∙ change_here f change tick x)

pub changes_nowhere : (f : PacketSource) (change : AdjacencyChange) (tick : ℕ) (links : List LinkValue) → length links ≤ f.link → links ≡ changed_at f change tick links
changes_nowhere f change tick links past = map_from_none (changed_on f change tick) f.link links (change_stays f change tick) past

delay_stays : (i : ℕ) (h : LsaHeader) (l : ℕ) (link : LinkValue) → l ≢ i → delayed_on i h l link ≡ link
delay_stays i h l link other =
    let apart : (l == i) ≡ false = grind arith in
    rw apart refl

abbrev with_delayed : LsaHeader → LinkValue → LinkValue
with_delayed h link = record link { delayed = link.delayed ++ h ∷ [] }

delay_here : (i : ℕ) (h : LsaHeader) (link : LinkValue) → with_delayed h link ≡ delayed_on i h i link
delay_here i h link =
    let same : (i == i) ≡ true = grind arith in
    rw same refl

-- an acknowledgement waits on a link
pub delays_there : (i : ℕ) (h : LsaHeader) (links : List LinkValue) (x y : LinkValue) → i < length links → x ≡ get_or links i x → y ≡ with_delayed h (get_or links i x)
    → set links i y ≡ delayed_at i h links
delays_there i h links x y lt here is =
    map_from_one (delayed_on i h) i links x y (delay_stays i h) lt here (is ∙ ap (with_delayed h) (sym here) ∙ delay_here i h x)

pub delays_nowhere : (i : ℕ) (h : LsaHeader) (links : List LinkValue) → length links ≤ i → links ≡ delayed_at i h links
delays_nowhere i h links past = map_from_none (delayed_on i h) i links (delay_stays i h) past

-- ---- one neighbour

module _ (q : RouterId) (change : AdjacencyChange) (tick : ℕ) where
  abbrev is_that : NeighbourValue → Bool
  is_that n = n.router.0 == q.0

  abbrev change_by : NeighbourValue → NeighbourValue
  change_by n = changed_if q change tick n

  stays_by : (n : NeighbourValue) (ns : List NeighbourValue) (b : Bool) → is_that n ≡ b → b || list_any is_that ns ≡ false → (list_any is_that ns ≡ false → ns ≡ map change_by ns) → n ∷ ns ≡ map change_by (n ∷ ns)
  stays_by n ns true is bad behind = absurd (cc)
  stays_by n ns false is rest behind = rw is (ap (λ (ms : List NeighbourValue). n ∷ ms) (behind rest))

  -- where none is that one, all stay
  none_changes : (ns : List NeighbourValue) → list_any is_that ns ≡ false → ns ≡ map change_by ns
  none_changes [] none = refl
  none_changes (n ∷ ns) none = stays_by n ns (is_that n) refl none (λ rest. none_changes ns rest)

  above_stay : (ns : List NeighbourValue) → AllByRecursion (λ n. q.0 < n.router.0) ns → ns ≡ map change_by ns
  above_stay [] above = refl
  above_stay (n ∷ ns) above =
      let apart : is_that n ≡ false = grind (arith, above.0) in
      rw apart (ap (λ (ms : List NeighbourValue). n ∷ ms) (above_stay ns above.1))

  at_place : (ns : List NeighbourValue) (at : ℕ) (n m : NeighbourValue) → AreNeighboursRising ns → at < length ns → is_that (get_or ns at n) ≡ true → ((k : ℕ) → k < at → is_that (get_or ns k n) ≡ false)
      → n ≡ get_or ns at n → m ≡ neighbour_changed change tick n → set ns at m ≡ map change_by ns
  at_place [] at n m rises within that before is changed = absurd (omega (arith, within))
  at_place (o ∷ os) zero n m rises within that before is changed =
      let same : o.router.0 ≡ q.0 = grind arith in
      let above : AllByRecursion (λ p. q.0 < p.router.0) os = rw same at rises.0 in
      let head : m ≡ neighbour_changed change tick o = changed ∙ ap (neighbour_changed change tick) is in
      let rest : os ≡ map change_by os = above_stay os above in
      rw that (ap (λ (p : NeighbourValue). p ∷ os) head ∙ ap (λ (ps : List NeighbourValue). neighbour_changed change tick o ∷ ps) rest)
  at_place (o ∷ os) (suc at) n m rises within that before is changed =
      let apart : is_that o ≡ false = before zero (omega arith) in
      rw apart (ap (λ (ps : List NeighbourValue). o ∷ ps) (at_place os at n m rises.1 (omega (arith, within)) that (λ k lt. before (suc k) (omega (arith, lt))) is changed))

  -- the neighbour of the Router ID changes
  pub one_changes : (ns : List NeighbourValue) (at : ℕ) (n m : NeighbourValue) → AreNeighboursRising ns → neighbour_place ns q ≡ Some at → n ≡ get_or ns at n → m ≡ neighbour_changed change tick n
      → set ns at m ≡ map change_by ns
  one_changes ns at n m rises found is changed = let p = position-Some is_that ns at n found in at_place ns at n m rises p.0 p.1 p.2 is changed

  -- or there is none of it
  pub nobody_changes : (ns : List NeighbourValue) → neighbour_place ns q ≡ None → ns ≡ map change_by ns
  nobody_changes ns none = none_changes ns (nowhere is_that ns none)

-- so does its link
pub link_changes : (q : RouterId) (change : AdjacencyChange) (tick : ℕ) (s now : LinkValue) (ns ns' : List NeighbourValue) → s ≡ now → ns ≡ s.neighbours → ns' ≡ map (changed_if q change tick) ns
    → record s { neighbours = ns' } ≡ changed_link q change tick now
link_changes q change tick s now ns ns' same inner is =
    ap (λ (ms : List NeighbourValue). record s { neighbours = ms }) (is ∙ ap (map (changed_if q change tick)) inner) ∙ ap (changed_link q change tick) same

pub link_stays : (q : RouterId) (change : AdjacencyChange) (tick : ℕ) (s now : LinkValue) → s ≡ now → s.neighbours ≡ map (changed_if q change tick) s.neighbours → s ≡ changed_link q change tick now
link_stays q change tick s now same is = ap (λ (ms : List NeighbourValue). record s { neighbours = ms }) is ∙ ap (changed_link q change tick) same
