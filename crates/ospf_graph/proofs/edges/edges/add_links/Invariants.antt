use Rattle.std.proofs.Common.{◌≡◌, ◌+◌, ◌++◌, ◌≤◌, length}
use Rattle.ospf_graph.specs.Adds.{Adds}
use Rattle.ospf_graph.specs.EdgeLists.Given.{LinkGives}
use Rattle.ospf_graph.proofs.EdgeLists.AddsLemmas.{GivenBy}
use Rattle.ospf_graph.proofs.edges.edges.add_links.Given as goal

abbrev pub invariant-loop-link : goal.invariant-loop-link
invariant-loop-link l = record {
  walked : l.fn.links ≡ l.yielded ++ l.link-iterator;
  adds : Adds (GivenBy (LinkGives l.index l.router) l.yielded) l.initial.edges.items l.edges.items;
  few : length l.edges.items ≤ length l.initial.edges.items + length l.yielded;
}
