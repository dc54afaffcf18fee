use Rattle.std.proofs.Common.{◌≡◌, ◌<◌, ℕ, length, get_or, take}
use Rattle.std.specs.List.{All, Contains}
use Rattle.ospf_graph.specs.EdgeLists.Listed.{advertisements_of}
use Rattle.ospf_graph.specs.declared.route.Route.{Route}
use Rattle.ospf_whatif.specs.Outage.{MayChange}
use Rattle.ospf_whatif.proofs.root.places_of.Given as goal

abbrev pub invariant-loop-vertex : goal.invariant-loop-vertex
invariant-loop-vertex l = record {
  within : All (λ k. k < length l.routes) l.places.items;
  all : (k : ℕ) (r : Route) → k < length l.routes → r ≡ get_or l.routes k r → MayChange (advertisements_of l.listing) l.gone (take l.vertex-index l.changed) r.prefix
      → Contains l.places.items k;
}
