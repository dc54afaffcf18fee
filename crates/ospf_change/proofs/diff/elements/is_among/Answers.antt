use Rattle.ospf_change.proofs.Diffs.ElementLemmas.{searched_for}
use Rattle.ospf_change.proofs.diff.elements.is_among.Goals as goal

pub returns : goal.returns
returns c =
    rw c.is_ok.ensures.value
    (searched_for c.args.elements.now c.args.element.now c.binary_search.result c.requires c.binary_search.ensures.bound c.binary_search.ensures.position)
