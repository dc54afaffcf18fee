use Rattle.std.proofs.Common.{◌≡◌, take}
use Rattle.ospf_files.specs.Listed.{AreConfigs}
use Rattle.ospf_sim.proofs.configs.read_configs.Given as goal

-- the files so far hold the configurations, and nothing is told
abbrev pub invariant-loop-file : goal.invariant-loop-file
invariant-loop-file g l = record {
  are : AreConfigs (take l.file-index l.files) l.configs.items;
  untold : g.E.Write.contents l.err ≡ g.E.Write.contents l.fn.err;
}
