-- What a failure takes from the graph of an area, and which routes stay.
use Rattle.std.proofs.Common.{◌≡◌, ◌==◌, ◌↔◌, ◌+◌, ◌++◌, ◌∷◌, ◌<◌, ℕ, Bool, true, false, List, [], IsTrue, Some, length, take, get_or, refl, sym, ap, subst, ◌∙◌, inl, inr, arith}
use Rattle.std.specs.List.{All, Contains}
use Rattle.std.specs.List.Sorted.{IsPermutation}
use Rattle.std.proofs.lemmas.List.{take_more}
use Rattle.std.proofs.lemmas.List.Elements.{All-push, Contains-append_left, Contains-push, Contains-push_cases}
use Rattle.std.proofs.lemmas.List.Sorted.{Contains-permutation, IsPermutation-sym}
use Rattle.ospf_base.specs.declared.ids.RouterId.{RouterId}
use Rattle.ospf_base.specs.declared.prefix.Prefix.{Prefix}
use Rattle.ospf_graph.specs.declared.edges.end.End.{End}
use Rattle.ospf_graph.specs.Advertisements.{Advertisement}
use Rattle.ospf_graph.specs.Graph.{IsEdge, IsEdgeBetween}
use Rattle.ospf_graph.specs.Routes.{IsEnd, IsRoute}
use Rattle.ospf_graph.specs.Search.{AtIn, HaveSameFrom, StartsIn}
use Rattle.ospf_graph.specs.Tree.{IsTree}
use Rattle.ospf_graph.specs.declared.candidates.SpfCandidate.{SpfCandidate}
use Rattle.ospf_graph.specs.declared.graph.Edge.{Edge}
use Rattle.ospf_graph.specs.declared.graph.Vertex.{Vertex}
use Rattle.ospf_graph.specs.declared.graph.Vertex.TheVariants.{Network, Router}
use Rattle.ospf_graph.specs.declared.route.Route.{Route}
use Rattle.ospf_graph.proofs.CandidateLemmas.{candidates_from-has, candidates_from-is}
use Rattle.ospf_graph.proofs.ListLemmas.{more_members, transit_exists, transit_found}
use Rattle.ospf_graph.proofs.TreeLemmas.{IsTree-map}
use Rattle.ospf_spf.specs.IncrementalSpf.Kept.{IsKeptTree, IsSameBut, KeptTree}
use Rattle.ospf_spf.specs.IncrementalSpf.Left.{LeadBack}
use Rattle.ospf_spf.specs.IncrementalSpf.Shrinking.{TakesEdges}
use Rattle.ospf_graph.specs.EdgeLists.Given.{IsEdgesOf}
use Rattle.ospf_spf.proofs.RouteFrame.{IsKeptHere, kept_routes}
use Rattle.ospf_spf.specs.Spared.{AreEndsInOrder}
use Rattle.ospf_whatif.specs.Failure.{without, without_all}
use Rattle.ospf_whatif.specs.Laws.{IsOffLeastPaths}
use Rattle.ospf_whatif.specs.Lost.{AreEdgesLost, AreEndsLost}
use Rattle.ospf_whatif.specs.Outage.{AreLost, AreMissing, HasOtherFrom, IsAreaGraph, IsLeftOver, IsOutage, IsToldBy, MayChange, StandsIn, left_of_area}
use Rattle.ospf_whatif.specs.Told.{IsAdvertised, IsLive}
use Rattle.ospf_whatif.specs.declared.failure.AreaFailure.{AreaFailure}
use Rattle.ospf_whatif.specs.declared.outage.AreaGraph.{AreaGraph}
use Rattle.ospf_whatif.specs.declared.outage.Outage.{Outage}
use Rattle.ospf_whatif.proofs.LessLemmas.{all_leave_listed, all_make_no_edge, all_make_no_end, all_trees_stay}

-- ---- lists

module _ {X : Type 0} (before : List X) (After : X → Type 0) (i : ℕ) (x : X) (lt : i < length before) (is : x ≡ get_or before i x) (lost : List X)
    (are : AreLost (Contains (take i before)) After lost) where
  pub lost_none : After x → AreLost (Contains (take (i + 1) before)) After lost
  lost_none there = record {
    within = λ y m. let w = are.within y m in ((more_members before i x lt y).1 (inl w.0), w.1);
    all = λ y m. elim ((more_members before i x lt y).0 m) [ inl earlier ↦ are.all y earlier | inr same ↦ inr (subst After (is ∙ same) there) ];
  }

  pub lost_more : (After x → ⊥) → AreLost (Contains (take (i + 1) before)) After (lost ++ x ∷ [])
  lost_more not = record {
    within = λ y m. elim (Contains-push_cases lost x y m) [
      | inl old ↦ (let w = are.within y old in ((more_members before i x lt y).1 (inl w.0), w.1))
      | inr same ↦ ((more_members before i x lt y).1 (inr (sym is ∙ same)), subst (λ z. After z → ⊥) same not)
    ];
    all = λ y m. elim ((more_members before i x lt y).0 m) [
      | inl earlier ↦ elim (are.all y earlier) [ inl old ↦ inl (Contains-append_left lost (x ∷ []) y old) | inr there ↦ inr there ]
      | inr same ↦ inl (subst (λ z. Contains (lost ++ x ∷ []) z) (is ∙ same) (Contains-push lost x))
    ];
  }

-- which order they are in that go does not matter
pub lost_sorted : {X : Type 0} (Before After : X → Type 0) (lost sorted : List X) → IsPermutation lost sorted → AreLost Before After lost → AreLost Before After sorted
lost_sorted Before After lost sorted moved are = record {
  within = λ x m. are.within x (Contains-permutation sorted lost x (IsPermutation-sym lost sorted moved) m);
  all = λ x m. elim (are.all x m) [ inl gone ↦ inl (Contains-permutation lost sorted x moved gone) | inr left ↦ inr left ];
}

-- of the edges in order all are found that leave a vertex
pub from_all : (v : Vertex) (edges some : List Edge) → HaveSameFrom v edges some → (e : Edge) → Contains edges e → e.from ≡ v → Contains some e
from_all v edges some same e m at =
    (candidates_from-is v 0 some e (0 + e.cost)
    (subst (λ (cs : List SpfCandidate). Contains cs (record { edge = e; distance = 0 + e.cost })) (same 0) (candidates_from-has v 0 edges e m at))).0

-- ---- edges

eqb_itself : (n : ℕ) → (n == n) ≡ true
eqb_itself n = grind arith

-- of each edge another one leads back
back_between : (A : List Advertisement) (u v : Vertex) (cost link_data : ℕ) → IsEdgeBetween A u v cost link_data
    → (back : Edge) × IsEdge A back × (back.from ≡ v) × (back.to ≡ u)
back_between A (Router a) (Router b) cost link_data h =
    (record { from = Router b; to = Router a; cost = h.2; link_data = h.1 }, (h.3, link_data, cost, h.0), refl, refl)
back_between A (Router a) (Network n) cost link_data h =
    let t = transit_exists n h.0.links _ h.0.link_in (eqb_itself n) in
    (record { from = Network n; to = Router a; cost = 0; link_data = t.0 }, (refl, record { links = h.0.links; listed = h.0.listed; first = t.1 }, h.1), refl, refl)
back_between A (Network n) (Router b) cost link_data h =
    let t = transit_found n h.1.links link_data h.1.first in
    (record { from = Router b; to = Network n; cost = t.0; link_data = link_data }, (record { links = h.1.links; listed = h.1.listed; link_in = t.1 }, h.2), refl, refl)
back_between A (Network n) (Network m) cost link_data h = absurd h

pub lead_back : (A : List Advertisement) (edges : List Edge) → IsEdgesOf A edges → LeadBack edges
lead_back A edges are e m =
    let b = back_between A e.from e.to e.cost e.link_data ((are e).0 m) in
    (b.0, (are b.0).1 b.1, b.2, b.3)

-- ---- what a failure takes

pub outage_is : (f : AreaFailure) (A : List Advertisement) (o : Outage) → o.failures.items ≡ f ∷ [] → AreEdgesLost A f o.edges.items → AreEndsLost A f o.ends.items
    → AreEndsInOrder o.ends.items → IsOutage A o
outage_is f A o of edges ends in_order =
    let same : without f A ≡ left_of_area A o = ap (λ (fs : List AreaFailure). without_all fs A) (sym of) in
    let edges : AreLost (IsEdge A) (IsEdge (left_of_area A o)) o.edges.items = subst (λ (l : List Advertisement). AreLost (IsEdge A) (IsEdge l) o.edges.items) same edges in
    let ends : AreLost (StandsIn A) (StandsIn (left_of_area A o)) o.ends.items = subst (λ (l : List Advertisement). AreLost (StandsIn A) (StandsIn l) o.ends.items) same ends in
    record { edges = edges; ends = ends; ends_in_order = in_order }

-- by the graphs of before and after
pub outage_between : (A : List Advertisement) (o : Outage) (before after : AreaGraph) → AreMissing before.edges.items after.edges.items o.edges.items
    → AreMissing before.ends.items after.ends.items o.ends.items → AreEndsInOrder o.ends.items → IsAreaGraph A before → IsAreaGraph (left_of_area A o) after → IsOutage A o
outage_between A o before after edges ends in_order was is = record {
  edges = record {
    within = λ e m. let w = edges.within e m in ((was.edges_are e).0 w.0, (λ left. w.1 ((is.edges_are e).1 left)));
    all = λ e there. elim (edges.all e ((was.edges_are e).1 there)) [ inl gone ↦ inl gone | inr left ↦ inr ((is.edges_are e).0 left) ];
  };
  ends = record {
    within = λ e m. let w = ends.within e m in ((was.ends_are e).0 w.0, (λ left. w.1 ((is.ends_are e).1 left)));
    all = λ e there. elim (ends.all e ((was.ends_are e).1 there)) [ inl gone ↦ inl gone | inr left ↦ inr ((is.ends_are e).0 left) ];
  };
  ends_in_order = in_order;
}

-- of no failure
pub outage_none : (A : List Advertisement) (o : Outage) → o.failures.items ≡ [] → o.edges.items ≡ [] → o.ends.items ≡ [] → IsOutage A o
outage_none A o none edges ends =
    let same : A ≡ left_of_area A o = ap (λ (fs : List AreaFailure). without_all fs A) (sym none) in
    record {
      edges = record {
        within = λ e m. absurd (let low = (subst (λ (l : List Edge). Contains l e) edges m).1 in omega arith);
        all = λ e there. inr (subst (λ (l : List Advertisement). IsEdge l e) same there);
      };
      ends = record {
        within = λ e m. absurd (let low = (subst (λ (l : List End). Contains l e) ends m).1 in omega arith);
        all = λ e there. inr (subst (λ (l : List Advertisement). StandsIn l e) same there);
      };
      ends_in_order = subst AreEndsInOrder (sym ends) (λ i j d less lt. absurd (omega arith));
    }

-- the tree over the edges of an area
pub tree_over : (A : List Advertisement) (root : RouterId) (k : KeptTree) → k.root ≡ Router root → IsEdgesOf A k.edges → IsKeptTree k
    → IsTree (IsEdge A) (Router root) (AtIn k.settled) (StartsIn k.starts)
tree_over A root k root_is edges_are tree =
    subst (λ (r : Vertex). IsTree (IsEdge A) r (AtIn k.settled) (StartsIn k.starts)) root_is
    (IsTree-map (Contains k.edges) (IsEdge A) (λ e. (edges_are e).0) (λ e. (edges_are e).1) k.root (AtIn k.settled) (StartsIn k.starts) tree)

module _ (A : List Advertisement) (o : Outage) (is : IsOutage A o) where
  abbrev B : List Advertisement
  B = left_of_area A o

  end_from : (p : Prefix) (v : Vertex) (k : ℕ) → IsEnd B p v k → IsEnd A p v k
  end_from p v k e = all_make_no_end o.failures.items A p v k e

  edge_from : (e : Edge) → IsEdge B e → IsEdge A e
  edge_from e there = all_make_no_edge o.failures.items A e there

  -- ---- ends of a prefix

  module _ (area : AreaGraph) (graph : IsAreaGraph A area) where
    module _ (p : Prefix) (part ends : List End) (part_in : (e : End) → Contains part e → Contains area.ends.items e)
        (part_all : (e : End) → Contains area.ends.items e → e.prefix ≡ p → Contains part e) (missing : AreMissing part o.ends.items ends) where
      pub ends_here : (v : Vertex) (k : ℕ) → Contains ends (record { prefix = p; vertex = v; cost = k }) ↔ IsEnd B p v k
      ends_here v k =
          let e : End = record { prefix = p; vertex = v; cost = k } in (
            (λ m.
                let w = missing.within e m in
                elim (is.ends.all e ((graph.ends_are e).0 (part_in e w.0))) [ inl gone ↦ absurd (w.1 gone) | inr left ↦ left ]),
            (λ left. elim (missing.all e (part_all e ((graph.ends_are e).1 (end_from p v k left)) refl)) [ inl there ↦ there | inr gone ↦ absurd ((is.ends.within e gone).1 left) ]),
          )

      pub told_here : (r : Bool) → IsTrue r ↔ IsToldBy B ends p → IsTrue r ↔ IsAdvertised B p
      told_here r both = (
        (λ t. let h = both.0 t in
            let e : End = record { prefix = p; vertex = h.0.vertex; cost = h.0.cost } in
            let same : h.0 ≡ e = (λ i. record { prefix = h.2 i; vertex = h.0.vertex; cost = h.0.cost }) in
            (h.0.vertex, h.0.cost, (ends_here h.0.vertex h.0.cost).0 (subst (λ (x : End). Contains ends x) same h.1), h.3)),
        (λ h. both.1 (record { prefix = p; vertex = h.0; cost = h.1 }, (ends_here h.0 h.1).1 h.2, refl, h.3)),
      )

    -- ---- networks

    module _ (n : ℕ) (part : List Edge) (part_in : (e : Edge) → Contains part e → Contains area.edges.items e) (same : HaveSameFrom (Network n) area.edges.items part) where
      pub live_here : (r : Bool) → IsTrue r ↔ HasOtherFrom part o.edges.items (Network n) → IsTrue r ↔ IsLive B (Network n)
      live_here r both = (
        (λ t. let h = both.0 t in elim (is.edges.all h.0 ((graph.edges_are h.0).0 (part_in h.0 h.1))) [ inl gone ↦ absurd (h.3 gone) | inr left ↦ (h.0, left, h.2) ]),
        (λ h. both.1 (h.0, from_all (Network n) area.edges.items part same h.0 ((graph.edges_are h.0).1 (edge_from h.0 h.1)) h.2, h.2, (λ gone. (is.edges.within h.0 gone).1 h.1))),
      )

  -- ---- trees

  -- of a root whose least paths go over none of the edges
  pub tree_unused : (root : Vertex) (k : KeptTree) → IsTree (IsEdge A) root (AtIn k.settled) (StartsIn k.starts)
      → ((e : Edge) → Contains o.edges.items e → IsOffLeastPaths (AtIn k.settled) e) → IsTree (IsEdge B) root (AtIn k.settled) (StartsIn k.starts)
  tree_unused root k tree unused =
      all_trees_stay o.failures.items A root k.settled k.starts tree (λ e there. elim (is.edges.all e there) [ inl gone ↦ inr (unused e gone) | inr left ↦ inl left ])

  -- of the paths that are left without the edges
  pub tree_left : (root : RouterId) (before after : KeptTree) → IsEdgesOf A before.edges → TakesEdges o.edges.items before.edges after.edges → after.root ≡ Router root → IsKeptTree after
      → IsTree (IsEdge B) (Router root) (AtIn after.settled) (StartsIn after.starts)
  tree_left root before after edges_are takes root_is tree =
      tree_over B root after root_is
      (λ e. (
        (λ m. let t = (takes e).0 m in elim (is.edges.all e ((edges_are e).0 t.0)) [ inl gone ↦ absurd (t.1 gone) | inr left ↦ left ]),
        (λ left. (takes e).1 ((edges_are e).1 (edge_from e left), (λ gone. (is.edges.within e gone).1 left))),
      ))
      tree

  -- ---- routes that stay

  module _ (root : RouterId) (changed : List Vertex) (before after : KeptTree) (over : IsLeftOver A o root changed before after) (p : Prefix) (free : MayChange A o.ends.items changed p → ⊥) where
    kept_here : IsKeptHere A B before after p
    kept_here = record {
      to = λ w d k at there. (
        (over.same.distance w d (λ m. free (inr (w, k, m, there)))).0 at,
        elim (is.ends.all (record { prefix = p; vertex = w; cost = k }) there) [
          | inl gone ↦ absurd (free (inl (record { prefix = p; vertex = w; cost = k }, gone, refl)))
          | inr left ↦ left
        ],
      );
      from = λ w d k at left. ((over.same.distance w d (λ m. free (inr (w, k, m, end_from p w k left)))).1 at, end_from p w k left);
      starts = λ w d k x at there. over.same.starts w x (λ m. free (inr (w, k, m, there)));
    }

    pub stays_here : (r : Route) → r.prefix ≡ p → IsRoute A root r → IsRoute B root r
    stays_here r of route =
        let both = all_leave_listed o.failures.items A root in
        (kept_routes A B root before after over.was over.now both.0 both.1 p kept_here).routes r of route

-- paths that stay
pub same_as_before : (changed : List Vertex) (k : KeptTree) → IsSameBut changed k k
same_as_before changed k = record { distance = λ v d free. ((λ m. m), (λ m. m)); starts = λ v x free. ((λ m. m), (λ m. m)) }

pub false_true : (b : Bool) → b ≡ false → b ≡ true → ⊥
false_true b f t = (let both : false ≡ true = sym f ∙ t in cc)

pub some_one : (a b : ℕ) → Some a ≡ Some b → a ≡ b
some_one a b is = cc

pub all_more : {X : Type 0} (P : X → Type 0) (xs : List X) (i : ℕ) (x : X) → i < length xs → All P (take i xs) → P (get_or xs i x) → All P (take (i + 1) xs)
all_more P xs i x lt first last = rw (take_more xs i x lt) (All-push P (take i xs) (get_or xs i x) first last)
