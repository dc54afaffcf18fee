use Rattle.std.proofs.Common.{◌≡◌, ◌+◌, ◌++◌, ◌≤◌, length}
use Rattle.ospf_graph.specs.Adds.{Adds}
use Rattle.ospf_graph.specs.EdgeLists.Given.{AttachedGives}
use Rattle.ospf_graph.proofs.EdgeLists.AddsLemmas.{GivenBy}
use Rattle.ospf_graph.proofs.edges.edges.add_members.Given as goal

abbrev pub invariant-loop-member : goal.invariant-loop-member
invariant-loop-member l = record {
  walked : l.fn.attached ≡ l.yielded ++ l.member-iterator;
  adds : Adds (GivenBy (AttachedGives l.index l.id) l.yielded) l.initial.edges.items l.edges.items;
  few : length l.edges.items ≤ length l.initial.edges.items + length l.yielded;
}
