use Rattle.std.proofs.Common.{◌≡◌, flat_map, take}
use Rattle.ospf_harm.specs.Carrier.{powered}
use Rattle.ospf_harm.proofs.carrier.all_powered.Given as goal

abbrev pub invariant-loop-failure : goal.invariant-loop-failure
invariant-loop-failure l = l.parts.items ≡ flat_map (powered l.single l.gone) (take l.failure-index l.single)
