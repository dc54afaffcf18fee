use Rattle.std.proofs.Common.{◌≡◌, ℕ, Option}
use Rattle.ospf_graph.specs.Reached.{ArePlaces, HaveSameStarts, settled_of}
use Rattle.ospf_graph.proofs.reached.tidy_all.Given as goal

abbrev pub invariant-loop-place : goal.invariant-loop-place
invariant-loop-place l =
    record {
      settled : settled_of l.reached.items ≡ settled_of l.initial.reached.items;
      starts : HaveSameStarts l.initial.reached.items l.reached.items;
      places : (places : ℕ → Option ℕ) → ArePlaces places l.initial.reached.items → ArePlaces places l.reached.items;
    }
