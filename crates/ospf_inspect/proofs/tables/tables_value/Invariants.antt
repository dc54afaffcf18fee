use Rattle.std.proofs.Common.{filter, map, take}
use Rattle.serde_json.specs.View.{view}
use Rattle.ospf_graph.specs.EdgeLists.Listed.{advertisements_of}
use Rattle.ospf_lsa.specs.Lsa.{kind_of}
use Rattle.ospf_inspect.specs.Json.{AreValues}
use Rattle.ospf_inspect.specs.Tables.{TellsRootOf, is_router}
use Rattle.ospf_inspect.proofs.tables.tables_value.Given as goal

-- the tables so far
abbrev pub invariant-loop-lsa : goal.invariant-loop-lsa
invariant-loop-lsa l =
    AreValues (TellsRootOf (advertisements_of l.listing)) (filter (λ lsa. is_router (kind_of lsa)) (take l.lsa-index l.lsa-items)) (map view l.items.items)
