use Rattle.std.proofs.Common.{◌+◌, ◌*◌, ◌≤◌, length, nat_eq}
use Rattle.std.specs.HashMap.{get}
use Rattle.ospf_graph.specs.Reached.{ArePlaces, settled_of, starts_of}
use Rattle.ospf_graph.proofs.SearchState.{IsState, unreached}
use Rattle.ospf_graph.proofs.paths.search.Given as goal

abbrev pub invariant-loop-candidate : goal.invariant-loop-candidate
invariant-loop-candidate l =
    record {
      state : IsState l.edges l.fn.root (settled_of l.reached.items) (starts_of l.reached.items) (get nat_eq l.nearest) l.candidates.list;
      places : ArePlaces (get nat_eq l.places) l.reached.items;
      looks : l.candidates.looks + 2 * unreached (settled_of l.reached.items) l.edges + length l.candidates.list ≤ 2 * length l.edges;
    }

abbrev pub decreases-loop-candidate : goal.decreases-loop-candidate
decreases-loop-candidate l = unreached (settled_of l.reached.items) l.edges + length l.candidates.list
