use Rattle.std.proofs.Common.{◌∷◌, ◌∙◌, map, subst, ap}
use Rattle.std.specs.BinaryHeap.{heap_items}
use Rattle.std.specs.List.Sorted.{IsPermutation}
use Rattle.std.proofs.lemmas.List.Sorted.{IsPermutation-map}
use Rattle.ospf_graph.proofs.CandidateOrder.{least_of_heap}
use Rattle.ospf_graph.proofs.candidates.Candidates.take_least.Goals.{in-Some, in-None}
use Rattle.ospf_graph.proofs.candidates.Candidates.take_least.Goals as goal

pub returns-clause-taken : goal.returns-clause-taken
returns-clause-taken c =
    elim c.match-pop.branch [
      | in-Some w ↦ rw w.result-is
          (subst (λ l. IsPermutation l (w.in-Some.least.0 ∷ map (λ r. r.0) (heap_items c.pop.new.self))) (ap (λ v. v.list) (c.self.view_is ∙ c.look.ensures))
          (IsPermutation-map (λ r. r.0) _ _ w.in-Some.ensures.permutation))
      | in-None w ↦ rw w.result-is tt
    ]

pub returns-clause-least : goal.returns-clause-least
returns-clause-least c =
    elim c.match-pop.branch [
      | in-Some w ↦ rw w.result-is (least_of_heap w.in-Some.least.0 (heap_items c.pop.new.self) (w.in-Some.ensures.below_top c.self.invariant))
      | in-None w ↦ rw w.result-is tt
    ]
