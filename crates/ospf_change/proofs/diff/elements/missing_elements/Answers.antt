use Rattle.std.proofs.Common.{◌≡◌, ◌∙◌, ◌+◌, ◌≤◌, ◌↔◌, ◌++◌, ◌∷◌, [], IsTrue, List, ap, length, subst, sym, take, arith}
use Rattle.std.specs.List.{Contains}
use Rattle.std.proofs.lemmas.List.{take_all}
use Rattle.ospf_whatif.specs.declared.failure.AreaFailure.{AreaFailure}
use Rattle.ospf_change.specs.Diff.Elements.{AreElementsMissing}
use Rattle.ospf_change.proofs.Diffs.ElementLemmas.{missing_more, missing_same, none_missing}
use Rattle.ospf_change.proofs.diff.elements.missing_elements.Goals as goal
use Rattle.ospf_change.proofs.diff.elements.missing_elements.Goals.{else-not-is_among, then-not-is_among+in_ok-push}

pub loop-element-init : goal.loop-element-init
loop-element-init c = none_missing c.args.elements.now c.args.others.now c.new-missing.result.items c.new-missing.ensures.items

pub loop-element-preserved : goal.loop-element-preserved
loop-element-preserved c =
    let elements = c.args.elements.now in
    let others = c.args.others.now in
    let i = c.loop-element.element-index in
    let x : AreaFailure = c.element-item.result in
    let missing = c.loop-element.missing.items in
    let so_far : AreElementsMissing (take i elements) others missing = c.loop-element.invariant in
    let among : IsTrue c.is_among.result ↔ Contains others x = c.is_among.ensures in
    elim c.if-not-is_among.branch [
      | then-not-is_among+in_ok-push w ↦
          let none : Contains others x → ⊥ = λ there. (let yes = among.1 there in let no = w.if-not-is_among.true in cc) in
          let is : c.if-not-is_among.missing.items ≡ missing ++ x ∷ [] = ap (λ v. v.items) w.missing-is ∙ w.in_ok-push.ensures.items in
          missing_more elements others c.requires.elements i x c.loop-element-test.true c.element-item.is missing c.if-not-is_among.missing.items is none so_far
      | else-not-is_among w ↦
          let there : Contains others x = among.0 (let no = w.if-not-is_among.false in cc) in
          let is : c.if-not-is_among.missing.items ≡ missing = ap (λ v. v.items) w.missing-is in
          subst (AreElementsMissing (take (i + 1) elements) others) (sym is)
          (missing_same elements others c.requires.elements i x c.loop-element-test.true c.element-item.is missing there so_far)
    ]

pub returns : goal.returns
returns c =
    let end : length c.args.elements.now ≤ c.loop-element.element-index = omega (arith, c.loop-element-test.false) in
    subst (λ (l : List AreaFailure). AreElementsMissing l c.args.others.now c.loop-element.missing.items) (take_all c.loop-element.element-index c.args.elements.now end) c.loop-element.invariant
