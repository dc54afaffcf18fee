use Rattle.std.proofs.Common.{subst}
use Rattle.ospf_spf.specs.IncrementalSpf.Shrinking.{TakesEdges}
use Rattle.ospf_spf.proofs.IncrementalSpf.ShrinkSteps.{takes_sorted}
use Rattle.ospf_spf.proofs.incremental.shrink.left_of.Goals as goal

pub returns-clause-members : goal.returns-clause-members
returns-clause-members c =
    let left = c.in_ok-left.left.items in
    takes_sorted c.args.less.now c.in_ok-sorted.sorted.items c.args.edges.now left c.in_ok-sorted.ensures.same
    (subst (λ l. TakesEdges l c.args.edges.now left) c.deref.ensures.value c.in_ok-left.ensures.members)
