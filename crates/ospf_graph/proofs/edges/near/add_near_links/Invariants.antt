use Rattle.std.proofs.Common.{◌≡◌, ◌++◌}
use Rattle.ospf_graph.specs.EdgeLists.Listed.{advertisements_of}
use Rattle.ospf_graph.specs.Adds.{Adds}
use Rattle.ospf_graph.specs.EdgeLists.Near.{NearLink}
use Rattle.ospf_graph.proofs.EdgeLists.AddsLemmas.{GivenBy}
use Rattle.ospf_graph.proofs.edges.near.add_near_links.Given as goal

abbrev pub invariant-loop-link : goal.invariant-loop-link
invariant-loop-link l = record {
  walked : l.fn.links ≡ l.yielded ++ l.link-iterator;
  adds : Adds (GivenBy (λ link. NearLink l.router link (advertisements_of l.listing)) l.yielded) l.initial.edges.items l.edges.items;
}
