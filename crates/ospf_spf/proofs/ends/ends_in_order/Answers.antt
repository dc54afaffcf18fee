use Rattle.std.proofs.Common.{rules, of_calls}
use Rattle.std.proofs.lemmas.List.Sorted.{Contains-permutation, IsNonDecreasingBy-from_sort_by_key, IsPermutation-sym}
use Rattle.ospf_graph.specs.declared.edges.end.End.{End}
use Rattle.ospf_spf.specs.Reach.{prefix_code}
use Rattle.ospf_spf.proofs.ends.ends_in_order.Goals as goal

pub returns-clause-ends : goal.returns-clause-ends
returns-clause-ends c = λ e. (
  λ m. (c.in_ok-ends.ensures e).0 (Contains-permutation _ _ e (IsPermutation-sym _ _ c.sort_unstable_by_key.ensures.permutation) m),
  λ is. Contains-permutation _ _ e c.sort_unstable_by_key.ensures.permutation ((c.in_ok-ends.ensures e).1 is),
)

pub returns-clause-in_order : goal.returns-clause-in_order
returns-clause-in_order c =
    IsNonDecreasingBy-from_sort_by_key (λ (e : End). prefix_code e.prefix) _ c.sort_unstable_by_key.ensures.sorted (λ a r q k. search (rules, of_calls))
