use Rattle.std.proofs.Common.{◌≡◌, subst, sym}
use Rattle.std.proofs.lemmas.Result.{IfOk-weaker}
use Rattle.ospf_graph.specs.EdgeLists.Listed.{advertisements_of}
use Rattle.ospf_change.specs.Edit.Words.{Names}
use Rattle.ospf_change.specs.declared.edit.words.WordKind.{WordKind}
use Rattle.ospf_change.proofs.Edits.KindLemmas.{none_weaker}
use Rattle.ospf_change.proofs.edit.words.find_change.Goals as goal

pub returns-in-None-clause-none : goal.returns-in-None-clause-none
returns-in-None-clause-none c =
    let none = rw c.in-None.is at c.in_ok-failure-in-Down.ensures.none in
    λ d names.
    let n = subst (λ (k : WordKind). Names (advertisements_of c.args.listing.now) c.args.single.now k c.args.word.now d) c.in-Down.is names in
    none n.0 n.2

pub returns-in-Cost-clause-none : goal.returns-in-Cost-clause-none
returns-in-Cost-clause-none c =
    IfOk-weaker c.find_cost.result _ _ (λ found is. none_weaker found _ _
    (λ none d names. none d (subst (λ (k : WordKind). Names (advertisements_of c.args.listing.now) c.args.single.now k c.args.word.now d) c.in-Cost.is names)) is)
    c.find_cost.ensures.none
