use Rattle.std.proofs.Common.{◌≡◌, sym, subst, List, All, AllPairs}
use Rattle.ospf_spf.specs.declared.changes.Change.{Change}
use Rattle.ospf_spf.specs.Changes.{IsChangeBefore, PutsHops}
use Rattle.ospf_spf.proofs.edit.Edit.new.Goals as goal

pub invariant_of-result : goal.invariant_of-result
invariant_of-result c =
    let same : c.in_ok-changes.changes.items ≡ c.args.changes.now = c.in_ok-changes.ensures in (
      c.in_ok-room.ensures.items,
      subst (λ (l : List Change). AllPairs IsChangeBefore l) (sym same) c.requires.in_order,
      subst (λ (l : List Change). All PutsHops l) (sym same) c.requires.have_hops,
    )
