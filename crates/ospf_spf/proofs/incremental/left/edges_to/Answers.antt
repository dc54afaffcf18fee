use Rattle.std.proofs.Common.{rules, of_calls, ◌≤◌, List, length, subst, sym}
use Rattle.std.proofs.lemmas.List.{take_all}
use Rattle.std.proofs.lemmas.List.Sorted.{IsNonDecreasingBy-from_sort_by_key}
use Rattle.ospf_graph.specs.declared.graph.Edge.{Edge}
use Rattle.ospf_graph.specs.declared.graph.Vertex.{Vertex}
use Rattle.ospf_graph.specs.Search.{vertex_code}
use Rattle.ospf_spf.specs.IncrementalSpf.Left.{AreFarEnds}
use Rattle.ospf_spf.proofs.IncrementalSpf.LeftLemmas.{between_all, between_more, between_none}
use Rattle.ospf_spf.proofs.incremental.left.edges_to.Goals as goal

pub loop-vertex-init : goal.loop-vertex-init
loop-vertex-init c = rw c.new-ends.ensures.items (between_none c.args.edges.now c.args.less.now c.args.gone.now)

pub loop-vertex-preserved : goal.loop-vertex-preserved
loop-vertex-preserved c =
    between_more c.args.edges.now c.args.less.now c.deref-vertex-items.result.now c.args.gone.now c.loop-vertex.vertex-index _ c.loop-vertex-test.true c.loop-vertex.ends.items
    c.add_edges_to.new.ends.items c.edges_from.result.now c.loop-vertex.invariant c.edges_from.ensures.same c.edges_from.ensures.part c.edges_from.ensures.only
    c.in_ok-add_edges_to.ensures

pub returns-clause-in_order : goal.returns-clause-in_order
returns-clause-in_order c =
    IsNonDecreasingBy-from_sort_by_key (λ (e : Edge). vertex_code e.from) _ c.sort_unstable_by_key.ensures.sorted (λ a r f called. search (rules, of_calls))

pub returns-clause-members : goal.returns-clause-members
returns-clause-members c =
    let far = c.deref-vertex-items.result.now in
    let end : length far ≤ c.loop-vertex.vertex-index = c.loop-vertex-test.false in
    between_all c.args.edges.now c.args.less.now far c.args.gone.now c.loop-vertex.ends.items c.sort_unstable_by_key.new.self.items c.requires.both_ways
    (subst (λ (l : List Vertex). AreFarEnds c.args.edges.now c.args.gone.now l) (sym c.deref-vertex-items.ensures.value) c.in_ok-far.ensures)
    c.sort_unstable_by_key.ensures.permutation (rw take_all at c.loop-vertex.invariant)
