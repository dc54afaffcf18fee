use Rattle.std.proofs.Common.{take, map}
use Rattle.ospf_files.specs.Lines.{numbered_line}
use Rattle.ospf_files.specs.Streams.{written_on}
use Rattle.ospf_commands.specs.Deliveries.Progress.{ToldOn}
use Rattle.ospf_sim.specs.Scripts.{IsScriptRun}
use Rattle.ospf_sim.proofs.script.run_script.Given as goal

-- the lines so far have run, and the watch was told
abbrev pub invariant-loop-line : goal.invariant-loop-line
invariant-loop-line g l = record {
  comes : IsScriptRun (map numbered_line (take l.line-index l.line-items)) l.fn.simulation l.simulation (written_on (g.O.Write.contents l.fn.out) (g.E.Write.contents l.fn.err)) (written_on (g.O.Write.contents l.out) (g.E.Write.contents l.err));
  told : ToldOn g.V.EventWatch.comes_gives g.V.EventWatch.came_gives g.V.Watch.goes_on_gives (l.fn.simulation.world, l.fn.watch) (l.simulation.world, l.watch);
}
