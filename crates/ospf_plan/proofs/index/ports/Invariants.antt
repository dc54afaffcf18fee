use Rattle.std.proofs.Common.{◌≡◌, ℕ, take}
use Rattle.ospf_plan.specs.Ends.{first_at_port, holder_in}
use Rattle.ospf_plan.proofs.index.ports.Given as goal

abbrev pub invariant-loop-end : goal.invariant-loop-end
invariant-loop-end l = (p : ℕ) → holder_in l.map p ≡ first_at_port (take l.end-index l.ends) p
