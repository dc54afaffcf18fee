use Rattle.std.proofs.Common.{◌≡◌, string_bytes, take}
use Rattle.ospf_harm.specs.Warnings.{hidden_text}
use Rattle.ospf_harm.proofs.warnings.hidden_text.Given as goal

-- the lines so far
abbrev pub invariant-loop-cost : goal.invariant-loop-cost
invariant-loop-cost l = string_bytes l.text ≡ hidden_text (take l.cost-index l.hidden)
