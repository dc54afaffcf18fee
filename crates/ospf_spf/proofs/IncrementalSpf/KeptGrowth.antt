-- Shortest paths that are kept with their edges, and edges that come.
use Rattle.std.proofs.Common.{◌≡◌, ◌+◌, ◌<◌, ◌≤◌, ◌⊎◌, ◌↔◌, ◌^◌, ℕ, true, false, Option, Some, None, List, [], ◌∷◌, ◌++◌, length, take, drop, get_or, refl, sym, ap, subst, inl, inr, arith, leb, leb-true}
use Rattle.std.specs.List.{Contains, insert}
use Rattle.std.specs.Prelude.{IfSome}
use Rattle.std.specs.List.Sorted.{IsPartitionPoint}
use Rattle.std.proofs.lemmas.List.{take-append-drop}
use Rattle.std.proofs.lemmas.List.Elements.{All-contains, Contains-append_left, Contains-append_right, Contains-append_cases}
use Rattle.std.proofs.lemmas.List.Sorted.{IsNonDecreasingBy-insert}
use Rattle.ospf_graph.specs.declared.candidates.SpfCandidate.{SpfCandidate}
use Rattle.ospf_graph.specs.declared.graph.Edge.{Edge}
use Rattle.ospf_graph.specs.declared.graph.Vertex.{Vertex}
use Rattle.ospf_graph.specs.declared.reached.Reached.{Reached}
use Rattle.ospf_graph.specs.Graph.{IsPath}
use Rattle.ospf_spf.specs.IncrementalSpf.Growth.{AreNear, HasEdge, HasStart, IsAt, IsGrowing, NoneWaits, Offers, Spares}
use Rattle.ospf_graph.specs.Adds.{Adds}
use Rattle.ospf_spf.specs.IncrementalSpf.Kept.{IsKeptTree, IsSameBut, KeptTree, vertices_of}
use Rattle.ospf_graph.specs.Reached.{ArePlaces, settled_of, starts_of}
use Rattle.ospf_graph.specs.Search.{AreEdgesInOrder, AtIn, AreFitEdges, StartsIn, vertex_code}
use Rattle.ospf_graph.specs.Tree.{IsTree}
use Rattle.ospf_spf.proofs.IncrementalSpf.GrowthLemmas.{begun, grown}
use Rattle.ospf_spf.proofs.IncrementalSpf.GrowthSteps.{at_from, at_one, none_waits}
use Rattle.ospf_graph.proofs.ListLemmas.{member_cases, member_head, member_later, member_to_map, more_members}
use Rattle.ospf_graph.proofs.ReachedLemmas.{none_some}
use Rattle.ospf_graph.proofs.Runs.{not_upto}
use Rattle.ospf_graph.proofs.TreeLemmas.{IsPath-map, at_end}

-- one element more
pub inserted : {X : Type 0} (xs : List X) (i : ℕ) (x h : X) → Contains (insert xs i x) h ↔ (Contains xs h ⊎ (x ≡ h))
inserted xs i x h = (
  λ m. elim (Contains-append_cases (take i xs) (x ∷ drop i xs) h m) [
    | inl f ↦ inl (subst (λ l. Contains l h) (take-append-drop i xs) (Contains-append_left (take i xs) (drop i xs) h f))
    | inr b ↦ elim (member_cases x (drop i xs) h b) [
      | inl same ↦ inr same
      | inr later ↦ inl (subst (λ l. Contains l h) (take-append-drop i xs) (Contains-append_right (take i xs) (drop i xs) h later))
    ]
  ],
  λ m. elim m [
    | inl old ↦ (let both : Contains (take i xs ++ drop i xs) h = subst (λ l. Contains l h) (sym (take-append-drop i xs)) old in
        elim (Contains-append_cases (take i xs) (drop i xs) h both) [
          | inl f ↦ Contains-append_left (take i xs) (x ∷ drop i xs) h f
          | inr b ↦ Contains-append_right (take i xs) (x ∷ drop i xs) h (member_later x (drop i xs) h b)
        ])
    | inr same ↦ Contains-append_right (take i xs) (x ∷ drop i xs) h (subst (λ y. Contains (x ∷ drop i xs) y) same (member_head x (drop i xs)))
  ],
)

pub inserted_in_order : (edges : List Edge) (e : Edge) (n i : ℕ) → n ≡ vertex_code e.from → AreEdgesInOrder edges → i ≤ length edges
    → IsPartitionPoint (λ f. leb (vertex_code f.from) n ≡ true) (λ f. leb (vertex_code f.from) n ≡ false) edges i → AreEdgesInOrder (insert edges i e)
inserted_in_order edges e n i is order within p =
    IsNonDecreasingBy-insert (λ f. vertex_code f.from) edges i e order within
    (λ k d lt. let low = leb-true (vertex_code (get_or edges k d).from) n (p.0 k d (omega arith) lt) in omega arith)
    (λ k d le lt. let high = not_upto (vertex_code (get_or edges k d).from) n (p.1 k d le lt) in omega arith)

pub adds_none : (edges : List Edge) → Adds (Contains []) edges edges
adds_none edges e = (λ m. inl m, λ m. elim m [ inl old ↦ old | inr none ↦ absurd (let low = none.1 in omega arith) ])

pub adds_more : (more : List Edge) (i : ℕ) (x : Edge) (old mid new : List Edge) → i < length more → Adds (Contains (take i more)) old mid
    → ((e : Edge) → Contains new e ↔ (Contains mid e ⊎ (get_or more i x ≡ e))) → Adds (Contains (take (i + 1) more)) old new
adds_more more i x old mid new lt first last e = (
  λ m. elim ((last e).0 m) [
    | inl before ↦ elim ((first e).0 before) [ inl o ↦ inl o | inr n ↦ inr ((more_members more i x lt e).1 (inl n)) ]
    | inr same ↦ inr ((more_members more i x lt e).1 (inr same))
  ],
  λ m. elim m [
    | inl o ↦ (last e).1 (inl ((first e).1 (inl o)))
    | inr n ↦ elim ((more_members more i x lt e).0 n) [ inl before ↦ (last e).1 (inl ((first e).1 (inr before))) | inr same ↦ (last e).1 (inr same) ]
  ],
)

pub fit_more : (more old new : List Edge) → Adds (Contains more) old new → AreFitEdges old → AreFitEdges more → AreFitEdges new
fit_more more old new adds a b =
    record {
      rising = λ e d is. elim ((adds e).0 is) [ inl o ↦ a.rising e d o | inr m ↦ b.rising e d m ];
      cost_fits = λ e is. elim ((adds e).0 is) [ inl o ↦ a.cost_fits e o | inr m ↦ b.cost_fits e m ];
      id_fits = λ e is. elim ((adds e).0 is) [ inl o ↦ a.id_fits e o | inr m ↦ b.id_fits e m ];
    }

-- the edges that come wait
growth_begun : (more old new : List Edge) (root : Vertex) (rs : List Reached) (none waits : List SpfCandidate) → none ≡ [] → IsTree (Contains old) root (IsAt rs) (HasStart rs)
    → Adds (Contains more) old new → Offers more (IsAt rs) (HasStart rs) none waits → IsGrowing (Contains new) (Contains new) root (IsAt rs) (HasStart rs) (HasEdge waits)
growth_begun more old new root rs none waits empty t adds o =
    begun (Contains old) (Contains new) root (IsAt rs) (HasStart rs) (HasEdge waits) t (λ e m. (adds e).1 (inl m))
    (λ e w. elim (o.only e w) [ inl h ↦ absurd (none_waits none empty e h) | inr m ↦ (adds e).1 (inr m) ])
    (λ e d is at. elim ((adds e).0 is) [ inl was ↦ inl was | inr m ↦ inr (o.owed e d m at) ])

-- and once none does, it is a tree of all edges
pub tree_grown : (more old new seen : List Edge) (root : Vertex) (rs rs' : List Reached) (none waits : List SpfCandidate) → none ≡ [] → IsTree (Contains old) root (IsAt rs) (HasStart rs)
    → Adds (Contains more) old new → Offers more (IsAt rs) (HasStart rs) none waits → seen ≡ new
    → ((all : List Edge) (v : Vertex) → IsGrowing (Contains all) (Contains seen) v (IsAt rs) (HasStart rs) (HasEdge waits)
    → IsGrowing (Contains all) (Contains seen) v (IsAt rs') (HasStart rs') NoneWaits)
    → IsTree (Contains new) root (IsAt rs') (HasStart rs')
tree_grown more old new seen root rs rs' none waits empty t adds offers same settles =
    let settles' = subst
    (λ l. (all : List Edge) (v : Vertex) → IsGrowing (Contains all) (Contains l) v (IsAt rs) (HasStart rs) (HasEdge waits)
    → IsGrowing (Contains all) (Contains l) v (IsAt rs') (HasStart rs') NoneWaits) same settles in
    grown (Contains new) root (IsAt rs') (HasStart rs') NoneWaits
    (settles' new root (growth_begun more old new root rs none waits empty t adds offers)) (λ e no. no)

some_inj : (j k : ℕ) → Some j ≡ Some k → j ≡ k
some_inj j k h = cc

pub told_distance : (place : ℕ → Option ℕ) (rs : List Reached) → ArePlaces place rs → (v : Vertex) (r : Option ℕ) → IfSome r (λ d. IsAt rs v d)
    → (r ≡ None → (d : ℕ) → IsAt rs v d → ⊥) → (d : ℕ) → (r ≡ Some d) ↔ IsAt rs v d
told_distance place rs are v None some none d = (λ h. absurd (none_some None d refl h), λ at. absurd (none refl d at))
told_distance place rs are v (Some k) some none d = (λ h. subst (λ j. IsAt rs v j) (some_inj k d h) some, λ at. ap (λ j. Some j) (at_one place rs are v k d some at))

pub near_some : (rs : List Reached) → AreNear rs → (v : Vertex) (r : Option ℕ) → IfSome r (λ d. IsAt rs v d) → IfSome r (λ d. d < 2 ^ 63)
near_some rs near v None at = at
near_some rs near v (Some d) at = All-contains (λ s. s.distance < 2 ^ 63) (settled_of rs) (record { vertex = v; distance = d }) near at

-- what is spared is the same
pub same_spared : (changed : List Vertex) (root : Vertex) (edges edges' : List Edge) (rs rs' : List Reached) → Spares changed rs rs'
    → IsSameBut changed (record { root = root; edges = edges; settled = settled_of rs; starts = starts_of rs }) (record { root = root; edges = edges'; settled = settled_of rs'; starts = starts_of rs' })
same_spared changed root edges edges' rs rs' s =
    record {
      distance = λ v d other. (λ at. s.at_in v d other at, λ at. s.at_out v d other at);
      starts = λ v x other. (λ has. s.starts_in v x other has, λ has. s.starts_out v x other has);
    }

-- a vertex that is reached is among the vertices
pub reached_named : (rs : List Reached) (some : List Vertex) (v : Vertex) (d : ℕ) → IsAt rs v d → Contains (some ++ vertices_of rs) v
reached_named rs some v d at =
    let r = at_from rs v d at in
    Contains-append_right some (vertices_of rs) v (subst (λ w. Contains (vertices_of rs) w) r.2 (member_to_map (λ (s : Reached). s.vertex) rs r.0 r.1))

-- a vertex that is not reached with more edges was not reached before
pub same_anew : (changed : List Vertex) (old new : KeptTree) → IsKeptTree old → IsKeptTree new → new.root ≡ old.root → ((e : Edge) → Contains old.edges e → Contains new.edges e)
    → ((v : Vertex) (d : ℕ) → (Contains changed v → ⊥) → AtIn new.settled v d → ⊥) → IsSameBut changed old new
same_anew changed old new t t' same_root more never =
    let root_at : AtIn new.settled old.root 0 = subst (λ v. AtIn new.settled v 0) same_root t'.root_at in
    let far : (v : Vertex) (path : List Edge) → (Contains changed v → ⊥) → IsPath (Contains old.edges) old.root path v → ⊥ =
    λ v path other leads.
    let leads' = IsPath-map (Contains old.edges) (Contains new.edges) more path old.root v leads in
    let end = at_end (Contains new.edges) new.root (AtIn new.settled) (StartsIn new.starts) t' path old.root v 0 leads' root_at in
    never v end.0 other end.1 in
    record {
      distance = λ v d other. (
        λ at. absurd (let p = t.path_of v d at in far v p.0 other p.1),
        λ at. absurd (never v d other at),
      );
      starts = λ v x other. (
        λ has. absurd (let p = t.path_with v x has in far v p.0 other p.1),
        λ has. absurd (let p = t'.path_with v x has in never v _ other p.2),
      );
    }

-- the same with fewer edges
pub same_less : (changed : List Vertex) (old new : KeptTree) → IsKeptTree old → IsKeptTree new → new.root ≡ old.root → ((e : Edge) → Contains new.edges e → Contains old.edges e)
    → ((v : Vertex) (d : ℕ) → (Contains changed v → ⊥) → AtIn old.settled v d → ⊥) → IsSameBut changed old new
same_less changed old new t t' same_root less never =
    let s = same_anew changed new old t' t (sym same_root) less never in
    record { distance = λ v d other. ((s.distance v d other).1, (s.distance v d other).0); starts = λ v x other. ((s.starts v x other).1, (s.starts v x other).0) }
