use Rattle.std.proofs.Common.{◌≡◌, ◌-◌}
use Rattle.ospf_world.specs.Draws.{drawn_past}
use Rattle.ospf_world.proofs.RandomFacts.{Comes_to}
use Rattle.ospf_world.specs.Ticks.{TicksGoOn}
use Rattle.ospf_world.specs.Watching.{Told}
use Rattle.ospf_world.specs.Worlds.{SameSettings}
use Rattle.ospf_world.proofs.world.World.draw_events_watched.Given as goal

abbrev pub invariant-loop-i : goal.invariant-loop-i
invariant-loop-i g l = record {
  comes : Comes_to l.count l.initial.generator l.initial.self (l.count - l.i) l.generator l.self;
  drawn : l.generator ≡ drawn_past l.i l.initial.generator;
  same : SameSettings l.initial.self l.self;
  ticks : TicksGoOn l.initial.self l.self;
  told : Told g.W.EventWatch.comes_gives g.W.EventWatch.came_gives (l.initial.self, l.initial.watch) (l.self, l.watch);
}
