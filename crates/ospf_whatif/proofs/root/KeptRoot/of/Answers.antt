use Rattle.std.proofs.Common.{List, subst}
use Rattle.std.specs.Prelude.{IsPermutation}
use Rattle.ospf_graph.specs.declared.graph.Edge.{Edge}
use Rattle.ospf_whatif.proofs.SortedLemmas.{edges_sorted}
use Rattle.ospf_whatif.proofs.root.KeptRoot.of.Goals as goal

pub returns-clause-kept : goal.returns-clause-kept
returns-clause-kept c = λ adverts graph.
    let k = c.in_ok-paths.paths in
    let same = subst (λ (es : List Edge). IsPermutation es k.edges) c.deref.ensures.value c.in_ok-paths.ensures.edges in
    record {
      root_is = c.in_ok-paths.ensures.root;
      edges_are = edges_sorted adverts c.args.area.now.edges.items k.edges same graph.edges_are;
      tree = c.in_ok-paths.ensures.tree;
    }
