use Rattle.std.proofs.Common.{List, subst}
use Rattle.std.specs.Prelude.{IsPermutation}
use Rattle.std.proofs.lemmas.List.Sorted.{Contains-permutation, IsPermutation-sym}
use Rattle.ospf_graph.specs.declared.graph.Edge.{Edge}
use Rattle.ospf_router.proofs.growing.GrowingTree.of.Goals as goal

pub invariant_of-result : goal.invariant_of-result
invariant_of-result c =
    let k = c.in_ok-paths.paths in
    let made = c.in_ok-edges.ensures.edges in
    let same = subst (λ (es : List Edge). IsPermutation es k.edges) c.deref.ensures.value c.in_ok-paths.ensures.edges in
    record {
      root_is = c.in_ok-paths.ensures.root;
      edges_are = λ e. (
        λ m. (made e).0 (Contains-permutation _ _ e (IsPermutation-sym _ _ same) m),
        λ is. Contains-permutation _ _ e same ((made e).1 is),
      );
      tree = c.in_ok-paths.ensures.tree;
      ends_are = c.in_ok-ends.ensures.ends;
      ends_in_order = c.in_ok-ends.ensures.in_order;
    }
