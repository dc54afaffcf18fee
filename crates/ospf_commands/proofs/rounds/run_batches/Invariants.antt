use Rattle.ospf_commands.specs.Deliveries.Progress.{ToldOn}
use Rattle.ospf_commands.specs.Rounds.{IsOneBatch}
use Rattle.ospf_commands.specs.Simulations.{unsettled}
use Rattle.ospf_commands.proofs.Leading.{LeadsOn}
use Rattle.ospf_commands.proofs.rounds.run_batches.Given as goal

-- what the batches that are left lead to all lead to; and what the watch was told
abbrev pub invariant-loop-done : goal.invariant-loop-done
invariant-loop-done g l = record {
  leads : LeadsOn IsOneBatch l.count l.done (unsettled l.fn.simulation) l.simulation;
  told : ToldOn g.V.EventWatch.comes_gives g.V.EventWatch.came_gives g.V.Watch.goes_on_gives (l.fn.simulation.world, l.fn.watch) (l.simulation.world, l.watch);
}
