use Rattle.std.proofs.Common.{◌≡◌, ◌++◌}
use Rattle.ospf_graph.specs.EdgeLists.Index.{NamedOn}
use Rattle.ospf_graph.specs.Adds.{Adds}
use Rattle.ospf_graph.proofs.EdgeLists.AddsLemmas.{GivenBy}
use Rattle.ospf_graph.proofs.edges.index.push_members.Given as goal

abbrev pub invariant-loop-member : goal.invariant-loop-member
invariant-loop-member l = record {
  walked : l.fn.attached ≡ l.yielded ++ l.member-iterator;
  adds : Adds (GivenBy (NamedOn l.id) l.yielded) l.initial.pairs.items l.pairs.items;
}
