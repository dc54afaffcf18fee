use Rattle.std.proofs.Common.{string_bytes}
use Rattle.ospf_graph.specs.EdgeLists.Listed.{advertisements_of}
use Rattle.ospf_inspect.proofs.Ways.{IsUnderWay, left_of}
use Rattle.ospf_inspect.proofs.path.add_way.Given as goal

abbrev pub invariant-loop-next : goal.invariant-loop-next
invariant-loop-next l = IsUnderWay (advertisements_of l.listing) l.address.0 l.way (string_bytes l.initial.text) l.next (string_bytes l.text)

abbrev pub decreases-loop-next : goal.decreases-loop-next
decreases-loop-next l = left_of l.next
