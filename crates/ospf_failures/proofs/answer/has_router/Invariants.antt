use Rattle.std.proofs.Common.{map, take}
use Rattle.ospf_graph.specs.EdgeLists.Listed.{advertisement_of}
use Rattle.ospf_failures.specs.Answer.{HasRouter}
use Rattle.ospf_failures.proofs.answer.has_router.Given as goal

-- none before is a router-LSA
abbrev pub invariant-loop-lsa : goal.invariant-loop-lsa
invariant-loop-lsa l = HasRouter (map advertisement_of (take l.lsa-index l.lsa-items)) → ⊥
