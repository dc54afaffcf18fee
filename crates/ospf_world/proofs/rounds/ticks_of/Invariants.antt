use Rattle.std.proofs.Common.{◌≡◌, take}
use Rattle.std.specs.List.{flat_map}
use Rattle.ospf_world.specs.Rounds.{slot_ticks}
use Rattle.ospf_world.proofs.rounds.ticks_of.Given as goal

abbrev pub invariant-loop-slot : goal.invariant-loop-slot
invariant-loop-slot l = l.events.items ≡ flat_map slot_ticks (take l.slot-index l.slots)
