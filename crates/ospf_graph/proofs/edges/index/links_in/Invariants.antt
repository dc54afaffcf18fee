use Rattle.std.proofs.Common.{take}
use Rattle.ospf_graph.specs.EdgeLists.Index.{LinksOf}
use Rattle.ospf_graph.specs.EdgeLists.Listed.{advertisement_of}
use Rattle.ospf_graph.specs.Adds.{Adds}
use Rattle.ospf_graph.proofs.EdgeLists.AddsLemmas.{GivenBy}
use Rattle.ospf_graph.proofs.edges.index.links_in.Given as goal

abbrev pub invariant-loop-lsa : goal.invariant-loop-lsa
invariant-loop-lsa l = Adds (GivenBy (λ lsa. LinksOf (advertisement_of lsa)) (take l.lsa-index l.lsa-items)) l.initial.pairs.items l.pairs.items
