-- Marks by a test.
use Rattle.std.proofs.Common.{◌≡◌, ◌↔◌, ℕ, Bool, true, false, List, [], IsTrue, refl, subst, inl, inr}
use Rattle.ospf_graph.specs.Advertisements.{Advertisement}
use Rattle.ospf_graph.specs.Graph.{IsEdgeBetween}
use Rattle.ospf_graph.specs.declared.graph.Edge.{Edge}
use Rattle.ospf_graph.specs.declared.graph.Vertex.{Vertex}
use Rattle.ospf_graph.specs.EdgeLists.Near.{AreEdgesAt}
use Rattle.ospf_inspect.specs.Lsas.{AreJoined, IsMarkUnless, AreJoinedBy, one_way}

-- the mark of a test that says whether this holds
pub mark_of : (holds : Type 0) (word mark : List ℕ) (b : Bool) → (IsTrue b ↔ holds) → (IsTrue b → mark ≡ []) → (b ≡ false → mark ≡ word) → IsMarkUnless holds word mark
mark_of holds word mark true is none some = inl (is.0 refl, none refl)
mark_of holds word mark false is none some = inr ((λ h. let no : false ≡ true = is.1 h in absurd (cc no)), some refl)

-- of the edges at a vertex one leads to another exactly where one of the graph does
pub joins_are : (adverts : List Advertisement) (v w : Vertex) (edges : List Edge) → AreEdgesAt adverts v edges → AreJoinedBy edges v w ↔ AreJoined adverts v w
joins_are adverts v w edges at = (
  λ joins.
      let e : Edge = joins.0 in
      let edge : IsEdgeBetween adverts e.from e.to e.cost e.link_data = ((at e).0 joins.1).0 in
      (e.cost, e.link_data, subst (λ (x : Vertex). IsEdgeBetween adverts x w e.cost e.link_data) joins.2 (subst (λ (x : Vertex). IsEdgeBetween adverts e.from x e.cost e.link_data) joins.3 edge)),
  λ joined.
      let e : Edge = record { from = v; to = w; cost = joined.0; link_data = joined.1 } in
      (e, (at e).1 (joined.2, inl refl), refl, refl),
)

pub mark_between : (adverts : List Advertisement) (v w : Vertex) (edges : List Edge) (b : Bool) (mark : List ℕ) → AreEdgesAt adverts v edges → (IsTrue b ↔ AreJoinedBy edges v w)
    → (IsTrue b → mark ≡ []) → (b ≡ false → mark ≡ one_way) → IsMarkUnless (AreJoined adverts v w) one_way mark
mark_between adverts v w edges b mark at is none some =
    let both = joins_are adverts v w edges at in
    mark_of (AreJoined adverts v w) one_way mark b ((λ yes. both.0 (is.0 yes)), (λ joined. is.1 (both.1 joined))) none some
