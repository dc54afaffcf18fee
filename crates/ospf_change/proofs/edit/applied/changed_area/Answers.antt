use Rattle.std.proofs.Common.{ℕ, List, IfOk, subst, sym}
use Rattle.std.specs.List.{AllZip}
use Rattle.ospf_graph.specs.EdgeLists.Listed.{advertisements_of}
use Rattle.ospf_whatif.specs.Failure.{IsLeftBy, IsLeftLsa}
use Rattle.ospf_change.specs.Edit.Change.{AreChanged, priced_links}
use Rattle.ospf_change.specs.declared.edit.change.Change.{Change}
use Rattle.ospf_change.proofs.edit.applied.changed_area.Goals as goal

pub returns-in-Down-clause-bytes : goal.returns-in-Down-clause-bytes
returns-in-Down-clause-bytes c = subst (λ (d : Change). IfOk c.without.result (AreChanged d c.args.listing.now)) (sym c.in-Down.is) c.without.ensures.bytes

pub returns-in-Cost-clause-bytes : goal.returns-in-Cost-clause-bytes
returns-in-Cost-clause-bytes c =
    subst (λ (d : Change). IfOk c.priced.result (AllZip (IsLeftBy (priced_links d)) c.args.listing.now) → IfOk c.priced.result (AreChanged d c.args.listing.now)) (sym c.in-Cost.is) (λ h. h)
    c.priced.ensures.bytes

pub returns-in-CostTo-clause-bytes : goal.returns-in-CostTo-clause-bytes
returns-in-CostTo-clause-bytes c =
    subst (λ (d : Change). IfOk c.priced-in-CostTo.result (AllZip (IsLeftBy (priced_links d)) c.args.listing.now) → IfOk c.priced-in-CostTo.result (AreChanged d c.args.listing.now))
    (sym c.in-CostTo.is) (λ h. h) c.priced-in-CostTo.ensures.bytes

pub returns-in-Drain-clause-bytes : goal.returns-in-Drain-clause-bytes
returns-in-Drain-clause-bytes c =
    subst (λ (d : Change). IfOk c.priced-in-Drain.result (AllZip (IsLeftBy (priced_links d)) c.args.listing.now) → IfOk c.priced-in-Drain.result (AreChanged d c.args.listing.now))
    (sym c.in-Drain.is) (λ h. h) c.priced-in-Drain.ensures.bytes
