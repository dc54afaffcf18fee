-- Shortest paths that are kept with their edges, and edges that go.
use Rattle.std.proofs.Common.{◌≡◌, ◌++◌, ◌<◌, ◌^◌, ℕ, get_or, length, nat_eq, Bool, true, List, [], subst, inl, inr, arith}
use Rattle.std.specs.List.{All, Contains}
use Rattle.std.proofs.lemmas.List.{get_or_default}
use Rattle.std.proofs.lemmas.List.Elements.{All-contains}
use Rattle.ospf_graph.specs.declared.candidates.SpfCandidate.{SpfCandidate}
use Rattle.ospf_graph.specs.declared.graph.Edge.{Edge}
use Rattle.ospf_graph.specs.declared.graph.Vertex.{Vertex}
use Rattle.ospf_spf.specs.declared.incremental.grow.FoundPaths.{FoundPaths}
use Rattle.ospf_graph.specs.declared.reached.Reached.{Reached}
use Rattle.ospf_spf.specs.IncrementalSpf.Growth.{AreNear, HasEdge, HasStart, HoldsAll, IsAt, IsGrowing, NoneWaits, Spares}
use Rattle.ospf_graph.specs.Adds.{Adds}
use Rattle.ospf_spf.specs.IncrementalSpf.Kept.{ChangesEdges, IsSameBut, KeptTree, vertices_of}
use Rattle.ospf_graph.specs.Reached.{settled_of, starts_of}
use Rattle.ospf_graph.specs.Search.{AreFitEdges}
use Rattle.ospf_spf.specs.IncrementalSpf.Shrinking.{IsClosed, LeadsTo, Leaves, OpensEdges, TakesEdges}
use Rattle.ospf_graph.specs.Tree.{IsTree}
use Rattle.ospf_spf.proofs.IncrementalSpf.GrowthLemmas.{grown}
use Rattle.ospf_spf.proofs.IncrementalSpf.GrowthSteps.{none_waits}
use Rattle.ospf_spf.proofs.IncrementalSpf.KeptGrowth.{reached_named}
use Rattle.ospf_spf.proofs.IncrementalSpf.ShrinkLemmas.{left}
use Rattle.ospf_spf.proofs.IncrementalSpf.ShrinkSteps.{gone_or_not}

pub fit_less : (less old new : List Edge) → TakesEdges less old new → AreFitEdges old → AreFitEdges new
fit_less less old new takes a =
    record {
      rising = λ e d is. a.rising e d ((takes e).0 is).0;
      cost_fits = λ e is. a.cost_fits e ((takes e).0 is).0;
      id_fits = λ e is. a.id_fits e ((takes e).0 is).0;
    }

-- what was tested makes these vertices closed
pub closed : (less old new : List Edge) (root : Vertex) (f : FoundPaths) (gone : List Vertex) → TakesEdges less old new → (Contains gone root → ⊥) → All (LeadsTo gone f) less
    → ((e : Edge) → Contains old e → Contains gone e.from → LeadsTo gone f e) → IsClosed (Contains old) (Contains new) root (IsAt f.reached.items) (Contains gone)
closed less old new root f gone takes free lead from_gone =
    record {
      stays = free;
      went = λ e d was from to. elim (gone_or_not gone e.to) [
        | inl there ↦ inr there
        | inr other ↦ inl ((takes e).1 (was, λ m. other (All-contains (LeadsTo gone f) less e lead m d from to)))
      ];
      spreads = λ e d was from to mark. from_gone e was mark d from to;
    }

module _ (less old new : List Edge) (root : Vertex) (f : FoundPaths) (gone : List Vertex) (ks : List Reached)
    (t : IsTree (Contains old) root (IsAt f.reached.items) (HasStart f.reached.items)) (takes : TakesEdges less old new)
    (l : Leaves (Contains gone) (IsAt f.reached.items) (IsAt ks) (HasStart f.reached.items) (HasStart ks)) where
  -- what is left grows to a tree of the edges that are left
  pub tree_shrunk : (Contains gone root → ⊥) → All (LeadsTo gone f) less → ((e : Edge) → Contains old e → Contains gone e.from → LeadsTo gone f e) → (some seen : List Edge) (rs : List Reached) (none waits : List SpfCandidate) → none ≡ []
      → some ≡ new → OpensEdges gone some (IsAt ks) none waits → seen ≡ new
      → ((all : List Edge) (v : Vertex) → IsGrowing (Contains all) (Contains seen) v (IsAt ks) (HasStart ks) (HasEdge waits)
      → IsGrowing (Contains all) (Contains seen) v (IsAt rs) (HasStart rs) NoneWaits)
      → IsTree (Contains new) root (IsAt rs) (HasStart rs)
  tree_shrunk free lead from_gone some seen rs none waits empty same_some o same settles =
      let opens = subst (λ s. OpensEdges gone s (IsAt ks) none waits) same_some o in
      let settles' = subst
      (λ s. (all : List Edge) (v : Vertex) → IsGrowing (Contains all) (Contains s) v (IsAt ks) (HasStart ks) (HasEdge waits)
      → IsGrowing (Contains all) (Contains s) v (IsAt rs) (HasStart rs) NoneWaits) same settles in
      grown (Contains new) root (IsAt rs) (HasStart rs) NoneWaits
      (settles' new root
      (left (Contains old) (Contains new) root (IsAt f.reached.items) (HasStart f.reached.items) t (Contains gone) (closed less old new root f gone takes free lead from_gone) (IsAt ks) (HasStart ks) (HasEdge waits) l
      (λ e is. ((takes e).0 is).0) (gone_or_not gone)
      (λ e w. elim (opens.only e w) [ inl h ↦ absurd (none_waits none empty e h) | inr m ↦ m ])
      (λ e d is at to. opens.waits e d is at to (λ k there. (l.at_out e.to k there).0 to))))
      (λ e no. no)

  pub near_left : AreNear f.reached.items → AreNear ks
  near_left near k x within =
      let s = get_or (settled_of ks) k x in
      All-contains (λ y. y.distance < 2 ^ 63) (settled_of f.reached.items) (record { vertex = s.vertex; distance = s.distance }) near
      (l.at_out s.vertex s.distance (k, within, get_or_default (settled_of ks) k _ x within)).1

  module _ (rs : List Reached) (changed : List Vertex) (s : Spares changed ks rs) (named : (v : Vertex) (d : ℕ) → Contains gone v → IsAt f.reached.items v d → Contains changed v) where
    pub same_shrunk : IsSameBut changed (record { root = root; edges = old; settled = settled_of f.reached.items; starts = starts_of f.reached.items })
        (record { root = root; edges = new; settled = settled_of rs; starts = starts_of rs })
    same_shrunk =
        record {
          distance = λ v d other. (
            λ at. elim (gone_or_not gone v) [ inl mark ↦ absurd (other (named v d mark at)) | inr free ↦ s.at_in v d other (l.at_in v d free at) ],
            λ at. (l.at_out v d (s.at_out v d other at)).1,
          );
          starts = λ v x other. (
            λ has. elim (gone_or_not gone v) [
              | inl mark ↦ absurd (let p = t.path_with v x has in other (named v _ mark p.2))
              | inr free ↦ s.starts_in v x other (l.starts_in v x free has)
            ],
            λ has. (l.starts_out v x (s.starts_out v x other has)).1,
          );
        }

    -- what was reached is marked, or reached still
    pub none_missed : (v : Vertex) (d : ℕ) → (Contains (changed ++ vertices_of rs) v → ⊥) → (Contains changed v → ⊥) → IsAt f.reached.items v d → ⊥
    none_missed v d never other at =
        elim (gone_or_not gone v) [
          | inl mark ↦ other (named v d mark at)
          | inr free ↦ never (reached_named rs changed v d (s.at_in v d other (l.at_in v d free at)))
        ]

-- edges go, and then edges come
pub changes_both : (less more old mid new : List Edge) → TakesEdges less old mid → Adds (Contains more) mid new → ChangesEdges less more old new
changes_both less more old mid new takes adds e = (
  λ m. elim ((adds e).0 m) [ inl there ↦ inl ((takes e).0 there) | inr came ↦ inr came ],
  λ m. elim m [ inl stays ↦ (adds e).1 (inl ((takes e).1 stays)) | inr came ↦ (adds e).1 (inr came) ],
)

pub empty_of : (b : Bool) (n : ℕ) → b ≡ nat_eq n 0 → b ≡ true → n ≡ 0
empty_of b n is told = grind arith

pub changes_more : (less more old new : List Edge) → length less ≡ 0 → Adds (Contains more) old new → ChangesEdges less more old new
changes_more less more old new empty adds e =
    let never : Contains less e → ⊥ = λ m. (let low = m.1 in omega arith) in (
      λ m. elim ((adds e).0 m) [ inl there ↦ inl (there, never) | inr came ↦ inr came ],
      λ m. elim m [ inl stays ↦ (adds e).1 (inl stays.0) | inr came ↦ (adds e).1 (inr came) ],
    )

pub same_both : (some all : List Vertex) (a b c : KeptTree) → HoldsAll some all → IsSameBut some a b → IsSameBut all b c → IsSameBut all a c
same_both some all a b c holds first last =
    record {
      distance = λ v d other.
          let x = first.distance v d (λ m. other (holds v m)) in
          let y = last.distance v d other in
          (λ at. y.0 (x.0 at), λ at. x.1 (y.1 at));
      starts = λ v s other.
          let x = first.starts v s (λ m. other (holds v m)) in
          let y = last.starts v s other in
          (λ has. y.0 (x.0 has), λ has. x.1 (y.1 has));
    }
