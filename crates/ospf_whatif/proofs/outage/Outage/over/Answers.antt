use Rattle.std.proofs.Common.{rules, of_calls}
use Rattle.std.proofs.lemmas.List.Sorted.{IsNonDecreasingBy-from_sort_by_key}
use Rattle.ospf_graph.specs.EdgeLists.Listed.{advertisements_of}
use Rattle.ospf_graph.specs.declared.edges.end.End.{End}
use Rattle.ospf_spf.specs.Reach.{prefix_code}
use Rattle.ospf_whatif.proofs.OutageLemmas.{lost_sorted, outage_is}
use Rattle.ospf_whatif.proofs.outage.Outage.over.Goals as goal

pub returns-clause-outage : goal.returns-clause-outage
returns-clause-outage c =
    outage_is c.args.failure.now (advertisements_of c.args.listing.now)
    (record { failures = c.in_ok-failures.failures; edges = c.in_ok-edges.edges; ends = c.sort_unstable_by_key.new.self }) c.in_ok-failures.ensures c.in_ok-edges.ensures
    (lost_sorted _ _ _ _ c.sort_unstable_by_key.ensures.permutation c.in_ok-ends.ensures)
    (IsNonDecreasingBy-from_sort_by_key (λ (e : End). prefix_code e.prefix) _ c.sort_unstable_by_key.ensures.sorted (λ a r q k. search (rules, of_calls)))
