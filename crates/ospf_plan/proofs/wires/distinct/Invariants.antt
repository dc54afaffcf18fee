use Rattle.std.proofs.Common.{◌≡◌, ℕ, take}
use Rattle.ospf_plan.specs.Wires.{distinct, has_wire, is_wired}
use Rattle.ospf_plan.proofs.wires.distinct.Given as goal

abbrev pub invariant-loop-wire : goal.invariant-loop-wire
invariant-loop-wire l =
    ((q : ℕ × ℕ × ℕ) → has_wire l.set q ≡ is_wired (take l.wire-index l.wires) q)
    × (l.some.items ≡ distinct (take l.wire-index l.wires))
