use Rattle.std.proofs.Common.{◌≤◌, ◌+◌, length, take, sym, subst, arith}
use Rattle.std.proofs.lemmas.List.{take_all}
use Rattle.ospf_whatif.specs.Single.{IsLongestOf, IsSharedFar, IsSharedIn}
use Rattle.ospf_whatif.proofs.OutageLemmas.{false_true}
use Rattle.ospf_whatif.proofs.SingleLemmas.{longer_more, longest_stays}
use Rattle.ospf_whatif.proofs.failures.longest_of.Goals as goal
use Rattle.ospf_whatif.proofs.failures.longest_of.Goals.{then-is_longer+then-is_shared, else-is_longer, else-is_longer-via-then-is_longer+else-is_shared, else-is_longer-via-else-is_longer}

pub loop-end-preserved : goal.loop-end-preserved
loop-end-preserved c =
    let near = c.args.near.now in
    let Q = IsSharedFar c.args.far.now c.args.back.now c.args.address c.args.a c.args.b in
    let P = IsSharedIn (take (c.loop-end.end-index + 1) near) c.args.far.now c.args.back.now c.args.address c.args.a c.args.b in
    let x = c.end-item.result in
    elim c.if-is_longer.branch [
      | then-is_longer+then-is_shared w ↦
          subst (λ o. IsLongestOf P o) (sym w.longest-is)
          (longer_more Q near c.loop-end.end-index x c.loop-end-test.true c.end-item.is c.loop-end.longest c.is_longer.result c.is_longer.ensures w.if-is_longer.true
          (w.is_shared.ensures.0 w.if-is_shared.true) c.loop-end.invariant)
      | else-is_longer w ↦
          subst (λ o. IsLongestOf P o) (sym w.longest-is)
          (longest_stays Q near c.loop-end.end-index x c.loop-end-test.true c.end-item.is c.loop-end.longest c.is_longer.result c.is_longer.ensures
          (elim w.else-is_longer.branch [
            | else-is_longer-via-then-is_longer+else-is_shared v ↦ λ so q. false_true v.is_shared.result v.if-is_shared.false (v.is_shared.ensures.1 q)
            | else-is_longer-via-else-is_longer v ↦ λ so q. false_true c.is_longer.result v.if-is_longer.false so
          ])
          c.loop-end.invariant)
    ]

pub returns : goal.returns
returns c =
    let end : length c.args.near.now ≤ c.loop-end.end-index = omega (arith, c.loop-end-test.false) in
    subst (λ l. IsLongestOf (IsSharedIn l c.args.far.now c.args.back.now c.args.address c.args.a c.args.b) c.loop-end.longest)
    (take_all c.loop-end.end-index c.args.near.now end) c.loop-end.invariant
