use Rattle.std.proofs.Common.{take}
use Rattle.ospf_files.specs.Listed.{AreConfigs}
use Rattle.ospf_drive.proofs.udp.plan.read_configs.Given as goal

-- the files so far hold the configurations
abbrev pub invariant-loop-file : goal.invariant-loop-file
invariant-loop-file l = AreConfigs (take l.file-index l.files) l.configs.items
