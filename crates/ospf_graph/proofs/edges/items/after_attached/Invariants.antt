use Rattle.std.proofs.Common.{◌≡◌, ◌++◌}
use Rattle.ospf_graph.specs.EdgeLists.Items.{attached_items}
use Rattle.ospf_graph.proofs.edges.items.after_attached.Given as goal

abbrev pub invariant-loop-router : goal.invariant-loop-router
invariant-loop-router l = record {
  walked : l.fn.attached ≡ l.yielded ++ l.router-iterator;
  behind : l.items ≡ attached_items l.yielded ++ l.rest;
}
