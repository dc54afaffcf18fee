use Rattle.std.proofs.Common.{◌≡◌, ◌++◌, List, string_bytes}
use Rattle.ospf_graph.specs.Advertisements.{Advertisement}
use Rattle.ospf_graph.specs.declared.graph.Vertex.TheVariants as vertex
use Rattle.ospf_graph.specs.EdgeLists.Near.{AreEdgesAt}
use Rattle.ospf_inspect.specs.Lines.{AreLines}
use Rattle.ospf_inspect.specs.Lsas.{SaysOfLink}
use Rattle.ospf_inspect.proofs.lsas.links_text.Given as goal

-- the links so far
abbrev pub invariant-loop-link : goal.invariant-loop-link
invariant-loop-link l = record {
  walked : l.fn.links ≡ l.yielded ++ l.link-iterator;
  said : (adverts : List Advertisement) → AreEdgesAt adverts (vertex.Router l.router) l.edges → AreLines (SaysOfLink adverts l.router) l.yielded (string_bytes l.text);
}
