use Rattle.std.proofs.Common.{◌*◌, ◌≤◌}
use Rattle.ospf_world.specs.Worlds.{world_of}
use Rattle.ospf_world.proofs.WalkFacts.{Completes}
use Rattle.ospf_world.proofs.world.World.walk_from.Given as goal

abbrev pub invariant-loop-i : goal.invariant-loop-i
invariant-loop-i l = record {
  completes : Completes (world_of l.self) l.address.0 l.choices l.initial.at l.count l.i l.at l.routers.items l.cost;
  low : l.cost ≤ l.i * 65535;
}
