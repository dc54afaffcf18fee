use Rattle.std.proofs.Common.{rules, ◌≡◌, ◌≤◌, ℕ, List, arith, length, refl, subst, sym}
use Rattle.std.specs.BTreeMap.{get}
use Rattle.std.proofs.lemmas.List.{get_or_default, take_all}
use Rattle.ospf_graph.specs.EdgeLists.Given.{IsEdgesOf}
use Rattle.ospf_graph.specs.EdgeLists.Listed.{advertisements_of}
use Rattle.ospf_graph.specs.declared.graph.Edge.{Edge}
use Rattle.ospf_change.specs.Diff.Costs.{interface_cmp}
use Rattle.ospf_change.proofs.Diffs.CostLemmas.{AreCostsBy, costs_are, costs_more, no_costs}
use Rattle.ospf_change.proofs.diff.costs.costs_of.Goals as goal

pub loop-edge-init : goal.loop-edge-init
loop-edge-init c = no_costs c.deref-edge-items.result.now (get interface_cmp c.new-costs.result) (λ i. search rules)

pub loop-edge-preserved : goal.loop-edge-preserved
loop-edge-preserved c =
    costs_more c.deref-edge-items.result.now c.loop-edge.edge-index _ (get interface_cmp c.loop-edge.costs) (get interface_cmp c.add_edge.new.costs) c.loop-edge-test.true
    (get_or_default c.deref-edge-items.result.now c.loop-edge.edge-index _ _ c.loop-edge-test.true) c.in_ok-add_edge.ensures c.loop-edge.invariant

pub returns : goal.returns
returns c =
    let items = c.deref-edge-items.result.now in
    let end : length items ≤ c.loop-edge.edge-index = omega (arith, c.loop-edge-test.false) in
    let adverts = advertisements_of c.args.listing.now in
    costs_are adverts items (get interface_cmp c.loop-edge.costs) (subst (λ (l : List Edge). IsEdgesOf adverts l) (sym c.deref-edge-items.ensures.value) c.in_ok-edges.ensures.edges)
    (subst (λ (l : List Edge). AreCostsBy l (get interface_cmp c.loop-edge.costs)) (take_all c.loop-edge.edge-index items end) c.loop-edge.invariant)
