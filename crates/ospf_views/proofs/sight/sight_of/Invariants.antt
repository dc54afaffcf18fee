use Rattle.std.proofs.Common.{◌≡◌, take}
use Rattle.std.specs.Prelude.{flat_map}
use Rattle.ospf_views.specs.Sight.{slot_sight}
use Rattle.ospf_views.proofs.sight.sight_of.Given as goal

abbrev pub invariant-loop-slot : goal.invariant-loop-slot
invariant-loop-slot l = l.seen.items ≡ flat_map slot_sight (take l.slot-index l.slots)
