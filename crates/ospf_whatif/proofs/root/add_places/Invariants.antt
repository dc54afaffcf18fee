use Rattle.std.proofs.Common.{◌≡◌, ◌<◌, ℕ, length, get_or, take}
use Rattle.std.specs.List.{All, Contains}
use Rattle.ospf_graph.specs.declared.edges.end.End.{End}
use Rattle.ospf_graph.specs.declared.route.Route.{Route}
use Rattle.ospf_whatif.proofs.root.add_places.Given as goal

abbrev pub invariant-loop-end : goal.invariant-loop-end
invariant-loop-end l = record {
  kept : (k : ℕ) → Contains l.initial.places.items k → Contains l.places.items k;
  within : All (λ k. k < length l.routes) l.initial.places.items → All (λ k. k < length l.routes) l.places.items;
  ends : (k : ℕ) (r : Route) (e : End) → k < length l.routes → r ≡ get_or l.routes k r → Contains (take l.end-index l.ends) e → e.prefix ≡ r.prefix → Contains l.places.items k;
}
