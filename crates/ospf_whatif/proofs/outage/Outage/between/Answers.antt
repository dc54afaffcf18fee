use Rattle.std.proofs.Common.{rules, of_calls}
use Rattle.std.proofs.lemmas.List.Sorted.{IsNonDecreasingBy-from_sort_by_key}
use Rattle.ospf_graph.specs.declared.edges.end.End.{End}
use Rattle.ospf_spf.specs.Reach.{prefix_code}
use Rattle.ospf_whatif.proofs.OutageLemmas.{lost_sorted, outage_between}
use Rattle.ospf_whatif.proofs.outage.Outage.between.Goals as goal

pub returns-clause-outage : goal.returns-clause-outage
returns-clause-outage c = λ A was is.
    outage_between A (record { failures = c.args.failures; edges = c.in_ok-edges.edges; ends = c.sort_unstable_by_key.new.self }) c.args.area.now c.args.after.now
    (rw (c.deref.ensures.value, c.deref-2.ensures.value) at c.in_ok-edges.ensures)
    (lost_sorted _ _ _ _ c.sort_unstable_by_key.ensures.permutation (rw (c.deref-3.ensures.value, c.deref-4.ensures.value) at c.in_ok-ends.ensures))
    (IsNonDecreasingBy-from_sort_by_key (λ (e : End). prefix_code e.prefix) _ c.sort_unstable_by_key.ensures.sorted (λ a r q k. search (rules, of_calls))) was is
