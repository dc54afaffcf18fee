use Rattle.std.proofs.Common.{◌-◌}
use Rattle.ospf_world.specs.Ticks.{TicksGoOn}
use Rattle.ospf_world.specs.Watching.{Told}
use Rattle.ospf_world.proofs.RoundFacts.{ComesTo}
use Rattle.ospf_world.proofs.world.World.offer.Given as goal

abbrev pub invariant-loop-i : goal.invariant-loop-i
invariant-loop-i g l = record {
  comes : ComesTo l.most l.initial.self (l.most - l.i) l.self;
  ticks : TicksGoOn l.initial.self l.self;
  told : Told g.W.EventWatch.comes_gives g.W.EventWatch.came_gives (l.initial.self, l.initial.watch) (l.self, l.watch);
}
