use Rattle.std.proofs.Common.{◌≡◌}
use Rattle.ospf_commands.specs.Deliveries.Progress.{ToldOn}
use Rattle.ospf_commands.specs.Settling.{sight}
use Rattle.ospf_commands.proofs.Settling.{Passed}
use Rattle.ospf_commands.proofs.settle.pass_rounds.Given as goal

-- the rounds so far, what was seen behind the last, and what the watch was told
abbrev pub invariant-loop-done : goal.invariant-loop-done
invariant-loop-done g l = record {
  passed : Passed l.still l.fn.simulation l.simulation l.done l.unchanged;
  seen : l.seen.items ≡ sight l.simulation;
  told : ToldOn g.V.EventWatch.comes_gives g.V.EventWatch.came_gives g.V.Watch.goes_on_gives (l.fn.simulation.world, l.fn.watch) (l.simulation.world, l.watch);
}
