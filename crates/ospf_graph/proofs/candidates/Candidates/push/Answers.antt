use Rattle.std.proofs.Common.{◌∷◌, ◌∙◌, map, subst, ap}
use Rattle.std.specs.BinaryHeap.{heap_items}
use Rattle.std.specs.List.Sorted.{IsPermutation}
use Rattle.std.proofs.lemmas.List.Sorted.{IsPermutation-map}
use Rattle.ospf_graph.proofs.candidates.Candidates.push.Goals as goal

pub returns-clause-added : goal.returns-clause-added
returns-clause-added c =
    subst (λ l. IsPermutation (c.args.candidate ∷ l) (map (λ r. r.0) (heap_items c.push.new.self))) (ap (λ v. v.list) (c.self.view_is ∙ c.look.ensures))
    (IsPermutation-map (λ r. r.0) _ _ c.in_ok-push.ensures.permutation)
