use Rattle.std.proofs.Common.{map, take}
use Rattle.serde_json.specs.View.{view}
use Rattle.ospf_graph.specs.EdgeLists.Listed.{advertisements_of}
use Rattle.ospf_inspect.specs.Values.{TellsLsa}
use Rattle.ospf_inspect.specs.Json.{AreValues}
use Rattle.ospf_inspect.proofs.values.lsas_value.Given as goal

-- the LSAs so far
abbrev pub invariant-loop-lsa : goal.invariant-loop-lsa
invariant-loop-lsa l = AreValues (TellsLsa (advertisements_of l.listing)) (take l.lsa-index l.lsa-items) (map view l.items.items)
