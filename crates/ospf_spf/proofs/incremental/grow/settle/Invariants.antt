use Rattle.std.specs.Prelude.{List}
use Rattle.std.specs.List.{Contains}
use Rattle.ospf_graph.specs.declared.graph.Edge.{Edge}
use Rattle.ospf_graph.specs.declared.graph.Vertex.{Vertex}
use Rattle.ospf_spf.specs.IncrementalSpf.Growth.{AreNear, Extends, HasEdge, HasPlaces, HasStart, IsAt, IsGrowing, SparesIn}
use Rattle.ospf_spf.proofs.incremental.grow.settle.Given as goal

abbrev pub invariant-loop : goal.invariant-loop
invariant-loop l =
    record {
      grows : (all : List Edge) (root : Vertex)
          → IsGrowing (Contains all) (Contains l.edges) root (IsAt l.initial.found.reached.items) (HasStart l.initial.found.reached.items) (HasEdge l.initial.waits.list)
          → IsGrowing (Contains all) (Contains l.edges) root (IsAt l.found.reached.items) (HasStart l.found.reached.items) (HasEdge l.waits.list);
      near : AreNear l.found.reached.items;
      places : HasPlaces l.found;
      spares : SparesIn l.changed.items l.initial.found l.found;
      changed : Extends l.initial.changed.items l.changed.items;
    }
