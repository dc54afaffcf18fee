use Rattle.std.proofs.Common.{◌≡◌, map, take}
use Rattle.ospf_journal.specs.Seen.{seen_neighbour}
use Rattle.ospf_journal.proofs.seen.neighbours_of.Given as goal

abbrev pub invariant-loop-neighbour : goal.invariant-loop-neighbour
invariant-loop-neighbour l = l.seen.items ≡ map seen_neighbour (take l.neighbour-index l.neighbours)
