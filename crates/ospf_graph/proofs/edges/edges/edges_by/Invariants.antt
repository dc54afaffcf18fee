use Rattle.std.proofs.Common.{◌≤◌, length, map, take}
use Rattle.ospf_graph.specs.EdgeLists.Listed.{advertisement_of, advertisements_of}
use Rattle.ospf_graph.specs.Adds.{Adds}
use Rattle.ospf_graph.specs.EdgeLists.Given.{EdgesOf, link_count}
use Rattle.ospf_graph.proofs.EdgeLists.AddsLemmas.{GivenBy}
use Rattle.ospf_graph.proofs.edges.edges.edges_by.Given as goal

abbrev pub invariant-loop-lsa : goal.invariant-loop-lsa
invariant-loop-lsa l = record {
  adds : Adds (GivenBy (λ lsa. EdgesOf (advertisements_of l.listing) (advertisement_of lsa)) (take l.lsa-index l.lsa-items)) l.initial.edges.items l.edges.items;
  few : length l.edges.items ≤ link_count (map advertisement_of (take l.lsa-index l.lsa-items));
}
