use Rattle.std.proofs.Common.{◌≤◌, ◌+◌, length, take, ap, sym, subst, ◌∙◌}
use Rattle.std.specs.List.{Contains}
use Rattle.std.proofs.lemmas.List.{get_or_default, take_all}
use Rattle.ospf_whatif.specs.Lost.{Stays}
use Rattle.ospf_whatif.specs.Outage.{AreLost}
use Rattle.ospf_whatif.proofs.OutageLemmas.{false_true, lost_more, lost_none}
use Rattle.ospf_whatif.proofs.outage.edges_going.Goals as goal
use Rattle.ospf_whatif.proofs.outage.edges_going.Goals.{then-not-stays+in_ok-push, else-not-stays}

pub loop-edge-preserved : goal.loop-edge-preserved
loop-edge-preserved c =
    let near = c.args.near.now in
    let stay = Stays c.args.failure.now c.args.inner.now near in
    let i = c.loop-edge.edge-index in
    let inv = c.loop-edge.invariant in
    elim c.if-not-stays.branch [
      | then-not-stays+in_ok-push w ↦
          subst (λ l. AreLost (Contains (take (i + 1) near)) stay l) (sym (ap (λ v. v.items) w.lost-is ∙ w.in_ok-push.ensures.items))
          (lost_more near stay i _ c.loop-edge-test.true (get_or_default near i _ _ c.loop-edge-test.true) c.loop-edge.lost.items inv (λ s. false_true c.stays.result w.if-not-stays.true (c.stays.ensures.1 s)))
      | else-not-stays w ↦
          subst (λ l. AreLost (Contains (take (i + 1) near)) stay l) (sym (ap (λ v. v.items) w.lost-is))
          (lost_none near stay i _ c.loop-edge-test.true (get_or_default near i _ _ c.loop-edge-test.true) c.loop-edge.lost.items inv (c.stays.ensures.0 w.if-not-stays.false))
    ]

pub returns : goal.returns
returns c =
    let end : length c.args.near.now ≤ c.loop-edge.edge-index = c.loop-edge-test.false in
    rw take_all at c.loop-edge.invariant
