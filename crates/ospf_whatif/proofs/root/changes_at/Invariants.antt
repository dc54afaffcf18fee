use Rattle.std.proofs.Common.{◌≡◌, ◌≤◌, ◌+◌, ◌⊎◌, ℕ, List, length, take}
use Rattle.std.specs.List.{All, Contains}
use Rattle.ospf_base.specs.declared.ids.RouterId.{RouterId}
use Rattle.ospf_graph.specs.Advertisements.{Advertisement}
use Rattle.ospf_graph.specs.Routes.{IsRoute}
use Rattle.ospf_whatif.specs.Outage.{AreChangesTo, AreOverLeft, left_of_area}
use Rattle.ospf_whatif.proofs.root.changes_at.Given as goal

abbrev pub invariant-loop-place : goal.invariant-loop-place
invariant-loop-place g l = record {
  within : l.next ≤ length l.routes;
  last : (l.next ≡ 0) ⊎ ((k : ℕ) × Contains (take l.place-index l.places) k × (l.next ≡ k + 1));
  so_far : (adverts : List Advertisement) (root : RouterId) → AreOverLeft adverts root l.area l.outage (g.P.Paths.kept l.paths) → All (IsRoute adverts root) l.routes
      → AreChangesTo (left_of_area adverts l.outage) root l.routes (take l.place-index l.places) l.next l.changes.items;
}
