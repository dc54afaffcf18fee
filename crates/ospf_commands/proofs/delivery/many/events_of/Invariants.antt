use Rattle.std.proofs.Common.{◌≡◌, take}
use Rattle.std.specs.List.{flat_map}
use Rattle.ospf_commands.specs.Deliveries.Many.{many_of}
use Rattle.ospf_commands.proofs.delivery.many.events_of.Given as goal

abbrev pub invariant-loop-slot : goal.invariant-loop-slot
invariant-loop-slot l = l.events.items ≡ flat_map (many_of l.many) (take l.slot-index l.slots)
