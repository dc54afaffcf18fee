use Rattle.std.proofs.Common.{◌≡◌, ◌++◌}
use Rattle.ospf_graph.specs.EdgeLists.Items.{link_items}
use Rattle.ospf_graph.proofs.edges.items.push_links.Given as goal

abbrev pub invariant-loop-link : goal.invariant-loop-link
invariant-loop-link l = record {
  walked : l.fn.links ≡ l.yielded ++ l.link-iterator;
  pushed : l.items.items ≡ l.initial.items.items ++ link_items l.yielded;
}
