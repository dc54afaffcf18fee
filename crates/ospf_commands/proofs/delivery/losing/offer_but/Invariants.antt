use Rattle.std.proofs.Common.{◌-◌}
use Rattle.ospf_world.specs.Ticks.{TicksOn}
use Rattle.ospf_world.specs.Watching.{Told}
use Rattle.ospf_world.specs.Worlds.{world_of}
use Rattle.ospf_commands.proofs.Deliveries.LossFacts.{LosesTo}
use Rattle.ospf_commands.proofs.delivery.losing.offer_but.Given as goal

abbrev pub invariant-loop-i : goal.invariant-loop-i
invariant-loop-i g l = record {
  comes : LosesTo l.most l.initial.world l.initial.losses (l.most - l.i) l.world l.losses;
  ticks : TicksOn (world_of l.initial.world) l.initial.world.ticks (world_of l.world) l.world.ticks;
  told : Told g.W.EventWatch.comes_gives g.W.EventWatch.came_gives (l.initial.world, l.initial.watch) (l.world, l.watch);
}
