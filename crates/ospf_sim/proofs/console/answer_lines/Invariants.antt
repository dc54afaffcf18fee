use Rattle.ospf_files.specs.Streams.{written_on}
use Rattle.ospf_commands.specs.Deliveries.Progress.{ToldOn}
use Rattle.ospf_sim.proofs.Sessions.{IsSoFar}
use Rattle.ospf_sim.proofs.console.answer_lines.Given as goal

-- the lines so far are answered, and the watch was told
abbrev pub invariant-loop-number : goal.invariant-loop-number
invariant-loop-number g l = record {
  comes : IsSoFar l.prompt (g.R.Read.remaining l.fn.console.input) (g.R.Read.remaining l.input) l.number l.fn.simulation l.simulation
      (written_on (g.O.Write.contents l.fn.out) (g.E.Write.contents l.fn.err)) (written_on (g.O.Write.contents l.out) (g.E.Write.contents l.err));
  told : ToldOn g.V.EventWatch.comes_gives g.V.EventWatch.came_gives g.V.Watch.goes_on_gives (l.fn.simulation.world, l.fn.watch) (l.simulation.world, l.watch);
}
