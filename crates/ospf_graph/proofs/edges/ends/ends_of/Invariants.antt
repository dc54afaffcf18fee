use Rattle.std.proofs.Common.{take}
use Rattle.ospf_graph.specs.EdgeLists.Listed.{advertisement_of, advertisements_of}
use Rattle.ospf_graph.specs.Adds.{Adds}
use Rattle.ospf_graph.specs.EdgeLists.Given.{EndsOf}
use Rattle.ospf_graph.proofs.EdgeLists.AddsLemmas.{GivenBy}
use Rattle.ospf_graph.proofs.edges.ends.ends_of.Given as goal

abbrev pub invariant-loop-lsa : goal.invariant-loop-lsa
invariant-loop-lsa l = Adds (GivenBy (λ lsa. EndsOf (advertisements_of l.listing) (advertisement_of lsa)) (take l.lsa-index l.lsa-items)) l.initial.ends.items l.ends.items
