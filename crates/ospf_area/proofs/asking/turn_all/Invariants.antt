-- ospf_area/proofs/asking/turn_all/Invariants.antt
use Rattle.std.proofs.Common.{◌≡◌, ◌++◌, map, take, drop}
use Rattle.ospf_area.specs.Asking.{turned_to_next}
use Rattle.ospf_area.specs.Outboxes.{and_packets}
use Rattle.ospf_area.specs.Turns.{all_next_packets}
use Rattle.ospf_neighbour.proofs.NeighbourLemmas.{routers}
use Rattle.ospf_area.proofs.asking.turn_all.Given as goal

abbrev pub invariant-loop-neighbour : goal.invariant-loop-neighbour
invariant-loop-neighbour l = record {
  turned : l.neighbours ≡ map (turned_to_next l.at.local.mtu l.at.local.tick) (take l.neighbour-index l.initial.neighbours) ++ drop l.neighbour-index l.initial.neighbours;
  sent : l.outbox ≡ and_packets l.initial.outbox (all_next_packets l.at.iface l.at.local (take l.neighbour-index l.initial.neighbours));
  still : routers l.neighbours ≡ routers l.initial.neighbours;
}
