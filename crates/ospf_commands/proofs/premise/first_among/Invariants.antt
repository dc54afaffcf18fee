use Rattle.std.proofs.Common.{Option, length}
use Rattle.ospf_world.specs.Worlds.{world_of}
use Rattle.ospf_commands.specs.Premise.{IsFirstOfVertices}
use Rattle.ospf_views.specs.declared.disagreement.Disagreement.{Disagreement}
use Rattle.ospf_commands.proofs.premise.first_among.Given as goal

-- what is so of the rest is so of all
abbrev pub invariant-loop-reached : goal.invariant-loop-reached
invariant-loop-reached l = (found : Option Disagreement) → IsFirstOfVertices (world_of l.world) l.from l.listing l.rest found → IsFirstOfVertices (world_of l.world) l.from l.listing l.settled found

abbrev pub decreases-loop-reached : goal.decreases-loop-reached
decreases-loop-reached l = length l.rest
