use Rattle.std.proofs.Common.{map, take}
use Rattle.ospf_neighbour.specs.Interface.Election.{declaring}
use Rattle.ospf_neighbour.specs.Interface.Choice.{BelongsTo}
use Rattle.ospf_neighbour.proofs.Interface.Choosing.{IsBestOrNone}
use Rattle.ospf_neighbour.proofs.iface.election.best.Given as goal

abbrev pub invariant-loop-c : goal.invariant-loop-c
invariant-loop-c l = IsBestOrNone (BelongsTo l.standing) (map (declaring l.me l.own) (take l.c-index l.candidates)) l.best
