use Rattle.std.proofs.Common.{◌≡◌, ◌++◌}
use Rattle.ospf_graph.specs.EdgeLists.Listed.{advertisements_of}
use Rattle.ospf_graph.specs.Adds.{Adds}
use Rattle.ospf_graph.specs.EdgeLists.Near.{NearMember}
use Rattle.ospf_graph.proofs.EdgeLists.AddsLemmas.{GivenBy}
use Rattle.ospf_graph.proofs.edges.near.add_near_members.Given as goal

abbrev pub invariant-loop-member : goal.invariant-loop-member
invariant-loop-member l = record {
  walked : l.fn.attached ≡ l.yielded ++ l.member-iterator;
  adds : Adds (GivenBy (λ member. NearMember l.id member (advertisements_of l.listing)) l.yielded) l.initial.edges.items l.edges.items;
}
