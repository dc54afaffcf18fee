use Rattle.std.proofs.Common.{◌≤◌}
use Rattle.ospf_config.specs.Configs.{ShareRouter}
use Rattle.ospf_files.proofs.twins.first_twins.Given as goal

-- the configurations so far are of one router each
abbrev pub invariant-loop-later : goal.invariant-loop-later
invariant-loop-later l = (twins : ShareRouter l.configs) → l.later ≤ twins.later
