use Rattle.std.proofs.Common.{◌+◌, ◌≤◌, length, nat_eq, take}
use Rattle.std.specs.HashMap.{get}
use Rattle.ospf_graph.specs.Search.{Joins, candidates_from}
use Rattle.ospf_graph.proofs.paths.add_each.Given as goal

abbrev pub invariant-loop-edge : goal.invariant-loop-edge
invariant-loop-edge l =
    record {
      joins : Joins (candidates_from l.fn.vertex l.distance (take l.edge-index l.some)) (get nat_eq l.initial.nearest) (get nat_eq l.nearest) l.initial.candidates.list l.candidates.list;
      looks : l.candidates.looks + length l.initial.candidates.list ≤ l.initial.candidates.looks + length l.candidates.list;
    }
