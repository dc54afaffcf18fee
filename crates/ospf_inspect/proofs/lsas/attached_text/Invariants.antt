use Rattle.std.proofs.Common.{◌≡◌, ◌++◌, List, string_bytes}
use Rattle.ospf_graph.specs.Advertisements.{Advertisement}
use Rattle.ospf_graph.specs.declared.graph.Vertex.TheVariants as vertex
use Rattle.ospf_graph.specs.EdgeLists.Near.{AreEdgesAt}
use Rattle.ospf_inspect.specs.Lines.{AreLines}
use Rattle.ospf_inspect.specs.Lsas.{SaysOfAttached}
use Rattle.ospf_inspect.proofs.lsas.attached_text.Given as goal

-- the routers so far
abbrev pub invariant-loop-router : goal.invariant-loop-router
invariant-loop-router l = record {
  walked : l.fn.attached ≡ l.yielded ++ l.router-iterator;
  said : (adverts : List Advertisement) → AreEdgesAt adverts (vertex.Network l.network) l.edges → AreLines (SaysOfAttached adverts l.network) l.yielded (string_bytes l.text);
}
