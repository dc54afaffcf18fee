use Rattle.std.proofs.Common.{Option, length}
use Rattle.ospf_world.specs.Worlds.{world_of}
use Rattle.ospf_commands.specs.Premise.{IsPremiseOfSlots}
use Rattle.ospf_views.specs.declared.disagreement.Disagreement.{Disagreement}
use Rattle.ospf_commands.proofs.premise.first_of_slots.Given as goal

-- what is so of the rest is so of all
abbrev pub invariant-loop-slot : goal.invariant-loop-slot
invariant-loop-slot l = (found : Option Disagreement) → IsPremiseOfSlots (world_of l.world) l.rest found → IsPremiseOfSlots (world_of l.world) l.slots found

abbrev pub decreases-loop-slot : goal.decreases-loop-slot
decreases-loop-slot l = length l.rest
