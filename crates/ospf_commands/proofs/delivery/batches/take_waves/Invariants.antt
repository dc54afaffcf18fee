use Rattle.std.proofs.Common.{◌-◌}
use Rattle.ospf_world.specs.Ticks.{TicksGoOn}
use Rattle.ospf_world.specs.Watching.{Told}
use Rattle.ospf_commands.proofs.Deliveries.BatchFacts.{ComesByWaves}
use Rattle.ospf_commands.proofs.delivery.batches.take_waves.Given as goal

abbrev pub invariant-loop-i : goal.invariant-loop-i
invariant-loop-i g l = record {
  comes : ComesByWaves l.most l.initial.world (l.most - l.i) l.world;
  ticks : TicksGoOn l.initial.world l.world;
  told : Told g.W.EventWatch.comes_gives g.W.EventWatch.came_gives (l.initial.world, l.initial.watch) (l.world, l.watch);
}
