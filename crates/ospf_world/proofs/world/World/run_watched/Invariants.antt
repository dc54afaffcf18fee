use Rattle.std.proofs.Common.{◌≤◌, take}
use Rattle.ospf_world.specs.Runs.{RunsOn}
use Rattle.ospf_world.specs.Does.{Does}
use Rattle.ospf_world.specs.Ticks.{TicksGoOn}
use Rattle.ospf_world.specs.Watching.{DoesTold}
use Rattle.ospf_world.specs.Worlds.{SameSettings}
use Rattle.ospf_world.proofs.world.World.run_watched.Given as goal

abbrev pub invariant-loop-event : goal.invariant-loop-event
invariant-loop-event g l = RunsOn Does (take l.event-index l.events) l.initial.self 0 l.self l.refused × (l.refused ≤ l.event-index) × SameSettings l.initial.self l.self
    × TicksGoOn l.initial.self l.self
    × RunsOn (DoesTold g.W.EventWatch.comes_gives g.W.EventWatch.came_gives) (take l.event-index l.events) (l.initial.self, l.initial.watch) 0 (l.self, l.watch) l.refused
