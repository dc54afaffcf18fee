use Rattle.std.proofs.Common.{◌≤◌, ◌+◌, length, take, ap, sym, subst, ◌∙◌}
use Rattle.std.proofs.lemmas.List.{take_all}
use Rattle.ospf_graph.specs.Search.{AreEdgesInOrder}
use Rattle.ospf_spf.specs.IncrementalSpf.Shrinking.{TakesEdges}
use Rattle.ospf_spf.proofs.IncrementalSpf.ShrinkSteps.{false_true, takes_gone, takes_in_order, takes_more}
use Rattle.ospf_spf.proofs.incremental.shrink.left_of_sorted.Goals as goal
use Rattle.ospf_spf.proofs.incremental.shrink.left_of_sorted.Goals.{then-not-has_in_order+in_ok-push, else-not-has_in_order}

pub loop-edge-preserved : goal.loop-edge-preserved
loop-edge-preserved c =
    let less = c.args.less.now in
    let edges = c.args.edges.now in
    let i = c.loop-edge.edge-index in
    let left = c.loop-edge.left.items in
    let inv = c.loop-edge.invariant in
    elim c.if-not-has_in_order.branch [
      | then-not-has_in_order+in_ok-push w ↦
          let is = sym (ap (λ v. v.items) w.left-is ∙ w.in_ok-push.ensures.items) in
          record {
            in_order = subst (λ l. AreEdgesInOrder l) is (takes_in_order less edges i _ c.loop-edge-test.true left inv.members c.requires.in_order inv.in_order);
            members = subst (λ l. TakesEdges less (take (i + 1) edges) l) is
                (takes_more less edges i _ c.loop-edge-test.true left inv.members (λ m. false_true c.has_in_order.result w.if-not-has_in_order.true (c.has_in_order.ensures.1 m)));
          }
      | else-not-has_in_order w ↦
          let is = sym (ap (λ v. v.items) w.left-is) in
          record {
            in_order = subst (λ l. AreEdgesInOrder l) is inv.in_order;
            members = subst (λ l. TakesEdges less (take (i + 1) edges) l) is
                (takes_gone less edges i _ c.loop-edge-test.true left inv.members (c.has_in_order.ensures.0 w.if-not-has_in_order.false));
          }
    ]

pub returns-clause-members : goal.returns-clause-members
returns-clause-members c =
    let end : length c.args.edges.now ≤ c.loop-edge.edge-index = c.loop-edge-test.false in
    rw take_all at c.loop-edge.invariant.members
