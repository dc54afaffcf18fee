use Rattle.ospf_graph.specs.EdgeLists.Listed.{advertisements_of}
use Rattle.ospf_graph.proofs.SearchState.{fit_sorted}
use Rattle.ospf_whatif.proofs.SortedLemmas.{edges_sorted}
use Rattle.ospf_whatif.proofs.outage.edges_in_order.Goals as goal

pub returns-clause-edges : goal.returns-clause-edges
returns-clause-edges c =
    edges_sorted (advertisements_of c.args.listing.now) c.in_ok-edges.edges.items c.in_ok-sorted.sorted.items (rw c.deref.ensures.value at c.in_ok-sorted.ensures.same)
    c.in_ok-edges.ensures.edges

pub returns-clause-fit : goal.returns-clause-fit
returns-clause-fit c = fit_sorted c.in_ok-edges.edges.items c.in_ok-sorted.sorted.items (rw c.deref.ensures.value at c.in_ok-sorted.ensures.same) c.in_ok-edges.ensures.fit
