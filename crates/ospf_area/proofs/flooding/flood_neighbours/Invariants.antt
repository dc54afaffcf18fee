use Rattle.std.proofs.Common.{◌≡◌, ◌++◌, map, take, drop}
use Rattle.ospf_lsa.specs.Header.{header_of}
use Rattle.ospf_lsa.specs.Lsa.{key_of}
use Rattle.ospf_neighbour.proofs.NeighbourLemmas.{routers}
use Rattle.ospf_area.proofs.Words.{some_listed, flooded_neighbour}
use Rattle.ospf_area.proofs.flooding.flood_neighbours.Given as goal

abbrev pub invariant-loop-neighbour : goal.invariant-loop-neighbour
invariant-loop-neighbour l = record {
  flooded : l.neighbours ≡ map (flooded_neighbour (key_of l.lsa) (header_of l.lsa) l.here l.tick) (take l.neighbour-index l.initial.neighbours) ++ drop l.neighbour-index l.initial.neighbours;
  listed : l.listed ≡ some_listed (key_of l.lsa) (header_of l.lsa) l.here (take l.neighbour-index l.initial.neighbours);
  still : routers l.neighbours ≡ routers l.initial.neighbours;
}
