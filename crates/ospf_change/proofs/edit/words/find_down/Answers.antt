use Rattle.std.proofs.Common.{◌≡◌, ◌∙◌, List, inr, map, subst}
use Rattle.ospf_table.specs.Named.{IsNamed}
use Rattle.ospf_whatif.specs.declared.failure.AreaFailure.{AreaFailure}
use Rattle.ospf_change.specs.Edit.Words.{mirrored}
use Rattle.ospf_change.proofs.edit.words.find_down.Goals as goal

pub returns-in-Some-2-clause-some : goal.returns-in-Some-2-clause-some
returns-in-Some-2-clause-some c =
    let none = rw c.in_default.is at c.in_ok-failure.ensures.none in
    let some = rw c.in-Some-2.is at c.in_ok-other.ensures.some in
    inr (
      none,
      (
        c.in-Some-2.other,
        subst (λ (l : List AreaFailure). IsNamed l c.args.word.now c.in-Some-2.other) (c.deref.ensures.value ∙ c.in_ok-others.ensures) some,
        c.mirrored.ensures,
      ),
    )
