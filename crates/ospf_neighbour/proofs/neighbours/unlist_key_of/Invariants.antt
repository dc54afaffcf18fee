use Rattle.std.proofs.Common.{◌≡◌, ◌++◌, map, take, drop}
use Rattle.ospf_neighbour.specs.Lists.{key_unlisted}
use Rattle.ospf_neighbour.proofs.neighbours.unlist_key_of.Given as goal

abbrev pub invariant-loop-neighbour : goal.invariant-loop-neighbour
invariant-loop-neighbour l = l.all ≡ map (key_unlisted l.key) (take l.neighbour-index l.fn.all) ++ drop l.neighbour-index l.fn.all
