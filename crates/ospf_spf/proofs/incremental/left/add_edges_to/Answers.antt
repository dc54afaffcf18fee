use Rattle.std.proofs.Common.{◌≤◌, ◌+◌, ◌∙◌, ap, length, subst, sym, take}
use Rattle.std.proofs.lemmas.List.{take_all}
use Rattle.ospf_spf.specs.IncrementalSpf.Left.{AddsEdgesTo}
use Rattle.ospf_spf.proofs.IncrementalSpf.LeftLemmas.{adds_to_more, adds_to_skip}
use Rattle.ospf_spf.proofs.IncrementalSpf.ShrinkSteps.{edge_in, false_true}
use Rattle.ospf_spf.proofs.incremental.left.add_edges_to.Goals as goal
use Rattle.ospf_spf.proofs.incremental.left.add_edges_to.Goals.{then-is_among+then-not-contains+in_ok-push, else-is_among, else-is_among-via-then-is_among+else-not-contains, else-is_among-via-else-is_among}

pub loop-edge-preserved : goal.loop-edge-preserved
loop-edge-preserved c =
    let some = c.args.some.now in
    let less = c.args.less.now in
    let gone = c.args.gone.now in
    let i = c.loop-edge.edge-index in
    let old = c.args.ends.now.items in
    let ends = c.loop-edge.ends.items in
    elim c.if-is_among.branch [
      | then-is_among+then-not-contains+in_ok-push w ↦
          subst (λ l. AddsEdgesTo (take (i + 1) some) less gone old l) (sym (ap (λ v. v.items) w.ends-is ∙ w.in_ok-push.ensures.items))
          (adds_to_more some less gone i _ c.loop-edge-test.true old ends c.loop-edge.invariant (c.is_among.ensures.0 w.if-is_among.true)
          (λ m. false_true w.contains.result w.if-not-contains.true ((edge_in less _ w.contains.result w.contains.ensures.cases).1 m)))
      | else-is_among w ↦
          subst (λ l. AddsEdgesTo (take (i + 1) some) less gone old l) (sym (ap (λ v. v.items) w.ends-is))
          (adds_to_skip some less gone i _ c.loop-edge-test.true old ends c.loop-edge.invariant
          (λ to left. elim w.else-is_among.branch [
            | else-is_among-via-then-is_among+else-not-contains u ↦ left ((edge_in less _ u.contains.result u.contains.ensures.cases).0 u.if-not-contains.false)
            | else-is_among-via-else-is_among u ↦ false_true c.is_among.result u.if-is_among.false (c.is_among.ensures.1 to)
          ]))
    ]

pub returns : goal.returns
returns c =
    let end : length c.args.some.now ≤ c.loop-edge.edge-index = c.loop-edge-test.false in
    rw take_all at c.loop-edge.invariant
