use Rattle.std.proofs.Common.{◌≤◌, ◌-◌}
use Rattle.ospf_commands.specs.Deliveries.Progress.{ToldOn}
use Rattle.ospf_commands.proofs.Chances.{LeadsOn}
use Rattle.rand_pcg.specs.Lcg.{increment_of, started}
use Rattle.rand_pcg.specs.Pcg.{multiplier_64}
use Rattle.ospf_commands.proofs.rounds.draw.Given as goal

-- what the events that are left lead to all lead to
abbrev pub invariant-loop-done : goal.invariant-loop-done
invariant-loop-done g l = record {
  within : l.done ≤ l.count;
  leads : LeadsOn l.count l.done (started 64 multiplier_64 l.number (increment_of 64 0)) l.generator l.fn.world l.world;
  told : ToldOn g.V.EventWatch.comes_gives g.V.EventWatch.came_gives g.V.Watch.goes_on_gives (l.fn.world, l.fn.watch) (l.world, l.watch);
}

abbrev pub decreases-loop-done : goal.decreases-loop-done
decreases-loop-done g l = l.count - l.done
