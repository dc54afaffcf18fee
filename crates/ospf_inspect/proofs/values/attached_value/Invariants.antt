use Rattle.std.proofs.Common.{◌≡◌, ◌++◌, List, map}
use Rattle.serde_json.specs.View.{view}
use Rattle.ospf_graph.specs.Advertisements.{Advertisement}
use Rattle.ospf_graph.specs.declared.graph.Vertex.TheVariants as vertex
use Rattle.ospf_graph.specs.EdgeLists.Near.{AreEdgesAt}
use Rattle.ospf_inspect.specs.Values.{TellsAttached}
use Rattle.ospf_inspect.specs.Json.{AreValues}
use Rattle.ospf_inspect.proofs.values.attached_value.Given as goal

-- those so far
abbrev pub invariant-loop-router : goal.invariant-loop-router
invariant-loop-router l = record {
  walked : l.fn.attached ≡ l.yielded ++ l.router-iterator;
  told : (adverts : List Advertisement) → AreEdgesAt adverts (vertex.Network l.network) l.edges → AreValues (TellsAttached adverts l.network) l.yielded (map view l.items.items);
}
