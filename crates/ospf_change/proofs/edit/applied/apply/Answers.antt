use Rattle.std.proofs.Common.{rules, ◌≡◌, ◌≤◌, List, length, take, refl, subst, arith}
use Rattle.std.proofs.lemmas.List.{take_all}
use Rattle.ospf_graph.specs.EdgeLists.Listed.{advertisements_of}
use Rattle.ospf_change.specs.Edit.Change.{AreChangedBy, HasChangedLargeBy, changed_by}
use Rattle.ospf_change.specs.declared.edit.change.Change.{Change}
use Rattle.ospf_change.proofs.Edits.ChangedLemmas.{bytes_next, changed_next, large_next, small_next}
use Rattle.ospf_change.proofs.edit.applied.apply.Goals as goal

pub loop-change-init : goal.loop-change-init
loop-change-init c = record { changed_area = refl; bytes = refl; small = λ none. none }

pub loop-change-preserved : goal.loop-change-preserved
loop-change-preserved c =
    let cs = c.args.changes.now in
    let i = c.loop-change.change-index in
    let x = c.change-item.result in
    let A = advertisements_of c.args.listing in
    let left = c.loop-change.left in
    record {
      changed_area =
          changed_next cs i x c.loop-change-test.true c.change-item.is A (advertisements_of left) c.loop-change.invariant.changed_area (advertisements_of c.in_ok-left.left)
          c.in_ok-left.ensures.changed_area;
      bytes = bytes_next cs i x c.loop-change-test.true c.change-item.is c.args.listing left c.in_ok-left.left c.loop-change.invariant.bytes c.in_ok-left.ensures.bytes;
      small = small_next cs i x c.loop-change-test.true c.change-item.is A (advertisements_of left) c.loop-change.invariant.changed_area c.loop-change.invariant.small c.in_ok-left.ensures.small;
    }

pub returns-in_err-left-clause-large : goal.returns-in_err-left-clause-large
returns-in_err-left-clause-large c = λ is.
    large_next c.args.changes.now c.loop-change.change-index c.change-item.result c.loop-change-test.true c.change-item.is (advertisements_of c.args.listing)
    (advertisements_of c.loop-change.left) c.loop-change.invariant.changed_area (c.in_err-left.ensures.large (search rules))

pub returns-clause-changed_area : goal.returns-clause-changed_area
returns-clause-changed_area c =
    let end : length c.args.changes.now ≤ c.loop-change.change-index = omega (arith, c.loop-change-test.false) in
    subst (λ (cs : List Change). advertisements_of c.loop-change.left ≡ changed_by cs (advertisements_of c.args.listing)) (take_all c.loop-change.change-index c.args.changes.now end)
    c.loop-change.invariant.changed_area

pub returns-clause-bytes : goal.returns-clause-bytes
returns-clause-bytes c =
    let end : length c.args.changes.now ≤ c.loop-change.change-index = omega (arith, c.loop-change-test.false) in
    subst (λ (cs : List Change). AreChangedBy cs c.args.listing c.loop-change.left) (take_all c.loop-change.change-index c.args.changes.now end) c.loop-change.invariant.bytes

pub returns-clause-small : goal.returns-clause-small
returns-clause-small c =
    let end : length c.args.changes.now ≤ c.loop-change.change-index = omega (arith, c.loop-change-test.false) in
    subst (λ (cs : List Change). HasChangedLargeBy cs (advertisements_of c.args.listing) → ⊥) (take_all c.loop-change.change-index c.args.changes.now end) c.loop-change.invariant.small
