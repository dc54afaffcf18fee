use Rattle.std.proofs.Common.{rules, ◌≡◌, ◌≤◌, length, arith}
use Rattle.ospf_change.specs.Edit.Words.{IsPairWord}
use Rattle.ospf_change.proofs.Edits.WordLemmas.{each_more, each_of_all}
use Rattle.ospf_change.proofs.edit.near.is_alone.Goals as goal
use Rattle.ospf_change.proofs.edit.near.is_alone.Goals.{else-branch-via-then-branch+else-not-is_same, else-branch-via-else-branch}

pub loop-failure-preserved : goal.loop-failure-preserved
loop-failure-preserved c =
    let here : IsPairWord c.args.word.now c.failure-item.result → c.failure-item.result ≡ c.args.first.now =
    elim c.else-branch.branch [
      | else-branch-via-then-branch+else-not-is_same w ↦ λ _. w.is_same.ensures.0 (search rules)
      | else-branch-via-else-branch w ↦ λ is. let yes = c.in_ok-is_pair.ensures.1 is in let no = w.if-branch.false in cc
    ] in
    each_more (λ f. IsPairWord c.args.word.now f → f ≡ c.args.first.now) c.args.single.now c.loop-failure.failure-index c.failure-item.result c.loop-failure-test.true c.failure-item.is
    c.loop-failure.invariant here

pub returns-clause-alone : goal.returns-clause-alone
returns-clause-alone c = λ _.
    let end : length c.args.single.now ≤ c.loop-failure.failure-index = omega (arith, c.loop-failure-test.false) in
    each_of_all (λ f. IsPairWord c.args.word.now f → f ≡ c.args.first.now) c.args.single.now c.loop-failure.failure-index end c.loop-failure.invariant
