use Rattle.std.proofs.Common.{◌≤◌, ◌+◌, length, take, ap, sym, subst, ◌∙◌}
use Rattle.std.specs.List.{Contains}
use Rattle.std.proofs.lemmas.List.{take_all}
use Rattle.ospf_whatif.specs.Outage.{AreMissing}
use Rattle.ospf_whatif.proofs.OutageLemmas.{false_true, lost_more, lost_none}
use Rattle.ospf_whatif.proofs.outage.ends_left.Goals as goal
use Rattle.ospf_whatif.proofs.outage.ends_left.Goals.{then-not-has_end_in_order+in_ok-push, else-not-has_end_in_order}

pub loop-end-preserved : goal.loop-end-preserved
loop-end-preserved c =
    let before = c.args.ends.now in
    let after = c.args.less.now in
    let i = c.loop-end.end-index in
    let inv = c.loop-end.invariant in
    elim c.if-not-has_end_in_order.branch [
      | then-not-has_end_in_order+in_ok-push w ↦
          subst (λ l. AreMissing (take (i + 1) before) after l) (sym (ap (λ v. v.items) w.left-is ∙ w.in_ok-push.ensures.items))
          (lost_more before (Contains after) i c.end-item.result c.loop-end-test.true c.end-item.is c.loop-end.left.items inv (λ m. false_true c.has_end_in_order.result w.if-not-has_end_in_order.true (c.has_end_in_order.ensures.1 m)))
      | else-not-has_end_in_order w ↦
          subst (λ l. AreMissing (take (i + 1) before) after l) (sym (ap (λ v. v.items) w.left-is))
          (lost_none before (Contains after) i c.end-item.result c.loop-end-test.true c.end-item.is c.loop-end.left.items inv (c.has_end_in_order.ensures.0 w.if-not-has_end_in_order.false))
    ]

pub returns : goal.returns
returns c =
    let end : length c.args.ends.now ≤ c.loop-end.end-index = c.loop-end-test.false in
    rw take_all at c.loop-end.invariant
