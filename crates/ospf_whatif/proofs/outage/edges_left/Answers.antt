use Rattle.std.proofs.Common.{◌≤◌, ◌+◌, length, take, ap, sym, subst, ◌∙◌}
use Rattle.std.specs.List.{Contains}
use Rattle.std.proofs.lemmas.List.{get_or_default, take_all}
use Rattle.ospf_whatif.specs.Outage.{AreMissing}
use Rattle.ospf_whatif.proofs.OutageLemmas.{false_true, lost_more, lost_none}
use Rattle.ospf_whatif.proofs.outage.edges_left.Goals as goal
use Rattle.ospf_whatif.proofs.outage.edges_left.Goals.{then-not-has_edge_in_order+in_ok-push, else-not-has_edge_in_order}

pub loop-edge-preserved : goal.loop-edge-preserved
loop-edge-preserved c =
    let before = c.args.edges.now in
    let after = c.args.left.now in
    let i = c.loop-edge.edge-index in
    let inv = c.loop-edge.invariant in
    elim c.if-not-has_edge_in_order.branch [
      | then-not-has_edge_in_order+in_ok-push w ↦
          subst (λ l. AreMissing (take (i + 1) before) after l) (sym (ap (λ v. v.items) w.missing-is ∙ w.in_ok-push.ensures.items))
          (lost_more before (Contains after) i _ c.loop-edge-test.true (get_or_default before i _ _ c.loop-edge-test.true) c.loop-edge.missing.items inv (λ m. false_true c.has_edge_in_order.result w.if-not-has_edge_in_order.true (c.has_edge_in_order.ensures.1 m)))
      | else-not-has_edge_in_order w ↦
          subst (λ l. AreMissing (take (i + 1) before) after l) (sym (ap (λ v. v.items) w.missing-is))
          (lost_none before (Contains after) i _ c.loop-edge-test.true (get_or_default before i _ _ c.loop-edge-test.true) c.loop-edge.missing.items inv (c.has_edge_in_order.ensures.0 w.if-not-has_edge_in_order.false))
    ]

pub returns : goal.returns
returns c =
    let end : length c.args.edges.now ≤ c.loop-edge.edge-index = c.loop-edge-test.false in
    rw take_all at c.loop-edge.invariant
