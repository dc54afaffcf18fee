use Rattle.std.proofs.Common.{rules, of_calls}
use Rattle.std.proofs.lemmas.List.Sorted.{IsNonDecreasingBy-from_sort_by_key}
use Rattle.ospf_graph.specs.Search.{vertex_code}
use Rattle.ospf_spf.proofs.incremental.shrink.behind.Goals as goal

pub returns : goal.returns
returns c = IsNonDecreasingBy-from_sort_by_key vertex_code _ c.sort_unstable_by_key.ensures.sorted (λ a r f called. search (rules, of_calls))
