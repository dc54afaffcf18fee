use Rattle.std.proofs.Common.{◌≡◌, ◌++◌}
use Rattle.ospf_graph.specs.Adds.{Adds}
use Rattle.ospf_graph.specs.EdgeLists.Near.{LinkSends}
use Rattle.ospf_graph.proofs.EdgeLists.AddsLemmas.{GivenBy}
use Rattle.ospf_graph.proofs.edges.near.add_sent_links.Given as goal

abbrev pub invariant-loop-link : goal.invariant-loop-link
invariant-loop-link l = record {
  walked : l.fn.links ≡ l.yielded ++ l.link-iterator;
  adds : Adds (GivenBy (LinkSends l.router l.to) l.yielded) l.initial.edges.items l.edges.items;
}
