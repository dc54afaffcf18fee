use Rattle.std.proofs.Common.{◌≡◌, ◌++◌}
use Rattle.ospf_graph.specs.EdgeLists.Items.{link_items}
use Rattle.ospf_graph.proofs.edges.items.after_links.Given as goal

abbrev pub invariant-loop-link : goal.invariant-loop-link
invariant-loop-link l = record {
  walked : l.fn.links ≡ l.yielded ++ l.link-iterator;
  behind : l.items ≡ link_items l.yielded ++ l.rest;
}
