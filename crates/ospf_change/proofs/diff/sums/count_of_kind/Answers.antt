use Rattle.std.proofs.Common.{◌≡◌, ◌∙◌, ◌+◌, Bool, ap, arith, sym, take}
use Rattle.ospf_change.specs.Diff.Sums.{count_of_kind, count_if}
use Rattle.ospf_change.specs.declared.diff.difference.RouteDifference.{RouteDifference}
use Rattle.ospf_change.proofs.Diffs.SightLemmas.{count_more, count_within}
use Rattle.ospf_change.proofs.diff.sums.count_of_kind.Goals as goal
use Rattle.ospf_change.proofs.diff.sums.count_of_kind.Goals.{else-is_difference_of, then-is_difference_of}

pub overflow_add-count : goal.overflow_add-count
overflow_add-count c =
    let few = count_within c.args.kind c.args.found.now c.loop-difference.difference-index c.loop-difference-test.true in
    omega arith

pub loop-difference-preserved : goal.loop-difference-preserved
loop-difference-preserved c =
    let i = c.loop-difference.difference-index in
    let d : RouteDifference = c.difference-item.result in
    let so_far : c.loop-difference.count ≡ count_of_kind c.args.kind (take i c.args.found.now) = c.loop-difference.invariant in
    let more : count_of_kind c.args.kind (take (i + 1) c.args.found.now) ≡ count_of_kind c.args.kind (take i c.args.found.now) + count_if c.is_difference_of.result =
    count_more c.args.kind c.args.found.now i d c.loop-difference-test.true c.difference-item.is
    ∙ ap (λ (b : Bool). count_of_kind c.args.kind (take i c.args.found.now) + count_if b) (sym c.is_difference_of.ensures) in
    elim c.if-is_difference_of.branch [
      | then-is_difference_of w ↦
          let one : count_if c.is_difference_of.result ≡ 1 = ap count_if w.if-is_difference_of.true in
          let is : c.if-is_difference_of.count ≡ c.loop-difference.count + 1 = w.count-is in
          let e : c.if-is_difference_of.count ≡ count_of_kind c.args.kind (take (i + 1) c.args.found.now) = omega arith in e
      | else-is_difference_of w ↦
          let none : count_if c.is_difference_of.result ≡ 0 = ap count_if w.if-is_difference_of.false in
          let is : c.if-is_difference_of.count ≡ c.loop-difference.count = w.count-is in
          let e : c.if-is_difference_of.count ≡ count_of_kind c.args.kind (take (i + 1) c.args.found.now) = omega arith in e
    ]
