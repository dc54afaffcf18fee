-- The same starts at each vertex, in another order or more than once.
use Rattle.std.proofs.Common.{◌≡◌, ◌<◌, ◌↔◌, ℕ, zero, suc, List, [], ◌∷◌, ◌++◌, length, get_or, set, subst, inl, inr, arith}
use Rattle.std.specs.List.{Contains}
use Rattle.std.proofs.lemmas.List.{length-map}
use Rattle.std.proofs.lemmas.List.Elements.{Contains-append_left, Contains-append_right, Contains-append_cases}
use Rattle.ospf_graph.proofs.ListLemmas.{member_of_map, member_to_map}
use Rattle.ospf_graph.proofs.TreeLemmas.{IsTree-same}
use Rattle.ospf_graph.specs.Adds.{Adds}
use Rattle.ospf_graph.specs.Reached.{AreSameStarts, HaveSameStarts, settled_of, starts_at, starts_of}
use Rattle.ospf_graph.specs.Search.{AtIn, BringsStarts, StartsIn}
use Rattle.ospf_graph.specs.Tree.{IsTree}
use Rattle.ospf_graph.specs.declared.graph.Edge.{Edge}
use Rattle.ospf_graph.specs.declared.graph.Start.{Start}
use Rattle.ospf_graph.specs.declared.graph.Vertex.{Vertex}
use Rattle.ospf_graph.specs.declared.paths.VertexStart.{VertexStart}
use Rattle.ospf_graph.specs.declared.reached.Reached.{Reached}

append_same : (xs xs' ys ys' : List VertexStart) → ((b : VertexStart) → Contains xs' b ↔ Contains xs b) → ((b : VertexStart) → Contains ys' b ↔ Contains ys b)
    → (b : VertexStart) → Contains (xs' ++ ys') b ↔ Contains (xs ++ ys) b
append_same xs xs' ys ys' first second b = (
  λ m. elim (Contains-append_cases xs' ys' b m) [ inl l ↦ Contains-append_left xs ys b ((first b).0 l) | inr r ↦ Contains-append_right xs ys b ((second b).0 r) ],
  λ m. elim (Contains-append_cases xs ys b m) [ inl l ↦ Contains-append_left xs' ys' b ((first b).1 l) | inr r ↦ Contains-append_right xs' ys' b ((second b).1 r) ],
)

at_same : (v : Vertex) (xs ys : List Start) → AreSameStarts xs ys → (b : VertexStart) → Contains (starts_at v ys) b ↔ Contains (starts_at v xs) b
at_same v xs ys same b = (
  λ m. let y = member_of_map (λ (x : Start). record { vertex = v; start = x }) ys b m in rw (← y.2) (member_to_map (λ (x : Start). record { vertex = v; start = x }) xs y.0 ((same y.0).0 y.1)),
  λ m. let y = member_of_map (λ (x : Start). record { vertex = v; start = x }) xs b m in rw (← y.2) (member_to_map (λ (x : Start). record { vertex = v; start = x }) ys y.0 ((same y.0).1 y.1)),
)

-- one entry anew, at its vertex and with its starts
pub same_set : (rs : List Reached) (k : ℕ) (new : Reached) → k < length rs → ((d : Reached) → (get_or rs k d).vertex ≡ new.vertex)
    → ((d : Reached) → AreSameStarts (get_or rs k d).starts.items new.starts.items) → HaveSameStarts rs (set rs k new)
same_set [] k new lt at same = absurd (omega arith)
same_set (s ∷ rest) zero new lt at same =
    append_same (starts_at s.vertex s.starts.items) (starts_at new.vertex new.starts.items) (starts_of rest) (starts_of rest)
    (subst (λ v. (b : VertexStart) → Contains (starts_at v new.starts.items) b ↔ Contains (starts_at s.vertex s.starts.items) b) (at new)
    (at_same s.vertex s.starts.items new.starts.items (same new)))
    (λ b. (λ m. m, λ m. m))
same_set (s ∷ rest) (suc k) new lt at same =
    append_same (starts_at s.vertex s.starts.items) (starts_at s.vertex s.starts.items) (starts_of rest) (starts_of (set rest k new))
    (λ b. (λ m. m, λ m. m)) (same_set rest k new (omega arith) at same)

pub same_both : (rs ss ts : List Reached) → HaveSameStarts rs ss → HaveSameStarts ss ts → HaveSameStarts rs ts
same_both rs ss ts a b = λ x. (λ m. (a x).0 ((b x).0 m), λ m. (b x).1 ((a x).1 m))

pub settled_length : (rs : List Reached) → length (settled_of rs) ≡ length rs
settled_length rs = length-map rs _

-- what is brought to the same starts
pub brings_same : (edge : Edge) (old mid : List Reached) (new : List VertexStart) → HaveSameStarts old mid → BringsStarts edge (starts_of mid) new → BringsStarts edge (starts_of old) new
brings_same edge old mid new same b =
    record {
      kept = λ x h. b.kept x ((same x).1 h);
      brought = λ x h. b.brought x ((same _).1 h);
      only = λ x h. elim (b.only x h) [ inl o ↦ inl ((same x).0 o) | inr n ↦ inr (n.0, n.1, (same _).0 n.2, n.3) ];
    }

-- the tree that they tell
pub tree_same : (edges : List Edge) (root : Vertex) (rs ss : List Reached) → settled_of ss ≡ settled_of rs → HaveSameStarts rs ss
    → IsTree (Contains edges) root (AtIn (settled_of rs)) (StartsIn (starts_of rs)) → IsTree (Contains edges) root (AtIn (settled_of ss)) (StartsIn (starts_of ss))
tree_same edges root rs ss settled same t =
    rw settled
    (IsTree-same (Contains edges) root (AtIn (settled_of rs)) (AtIn (settled_of rs)) (StartsIn (starts_of rs)) (StartsIn (starts_of ss))
    (λ v d. (λ m. m, λ m. m)) (λ v x. (λ m. (same _).1 m, λ m. (same _).0 m)) t)

-- starts behind others, and then in another order
pub adds_append : (more old new : List Start) → new ≡ old ++ more → Adds (Contains more) old new
adds_append more old new is y =
    rw is (
      λ m. Contains-append_cases old more y m,
      λ m. elim m [ inl o ↦ Contains-append_left old more y o | inr n ↦ Contains-append_right old more y n ],
    )

pub adds_in_order : (more old mid new : List Start) → Adds (Contains more) old mid → AreSameStarts mid new → Adds (Contains more) old new
adds_in_order more old mid new adds same y = (λ m. (adds y).0 ((same y).0 m), λ m. (same y).1 ((adds y).1 m))
