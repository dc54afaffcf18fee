use Rattle.std.proofs.Common.{◌≡◌, ◌≤◌}
use Rattle.ospf_config.specs.Configs.{ShareRouter}
use Rattle.ospf_files.proofs.twins.twin_before.Given as goal

-- none so far is one
abbrev pub invariant-loop-earlier : goal.invariant-loop-earlier
invariant-loop-earlier l = (twins : ShareRouter l.configs) → twins.later ≡ l.later → l.earlier ≤ twins.place
