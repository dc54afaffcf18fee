use Rattle.std.proofs.Common.{◌≡◌, ◌++◌}
use Rattle.ospf_graph.specs.EdgeLists.Index.{LinkNames}
use Rattle.ospf_graph.specs.Adds.{Adds}
use Rattle.ospf_graph.proofs.EdgeLists.AddsLemmas.{GivenBy}
use Rattle.ospf_graph.proofs.edges.index.push_links.Given as goal

abbrev pub invariant-loop-link : goal.invariant-loop-link
invariant-loop-link l = record {
  walked : l.fn.links ≡ l.yielded ++ l.link-iterator;
  adds : Adds (GivenBy (LinkNames l.router) l.yielded) l.initial.pairs.items l.pairs.items;
}
