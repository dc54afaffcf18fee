use Rattle.std.proofs.Common.{◌≡◌, take}
use Rattle.ospf_plan.specs.Parts.{LinkKey, first_linked, linked_in}
use Rattle.ospf_plan.proofs.parts.links_of.Given as goal

abbrev pub invariant-loop-end : goal.invariant-loop-end
invariant-loop-end l = (k : LinkKey) → linked_in l.links k ≡ first_linked (take l.end-index l.ends) k
