-- Edges in another order.
use Rattle.std.proofs.Common.{List}
use Rattle.std.specs.List.Sorted.{IsPermutation}
use Rattle.std.proofs.lemmas.List.Sorted.{Contains-permutation, IsPermutation-sym}
use Rattle.ospf_graph.specs.Advertisements.{Advertisement}
use Rattle.ospf_graph.specs.declared.graph.Edge.{Edge}
use Rattle.ospf_graph.specs.EdgeLists.Given.{IsEdgesOf}

-- they are those of the same area
pub edges_sorted : (adverts : List Advertisement) (edges sorted : List Edge) → IsPermutation edges sorted → IsEdgesOf adverts edges → IsEdgesOf adverts sorted
edges_sorted adverts edges sorted same are e =
    (λ m. (are e).0 (Contains-permutation sorted edges e (IsPermutation-sym edges sorted same) m), λ is. Contains-permutation edges sorted e same ((are e).1 is))
