use Rattle.std.proofs.Common.{◌≡◌}
use Rattle.ospf_graph.specs.EdgeLists.Listed.{advertisements_of}
use Rattle.ospf_change.specs.Diff.Costs.{AreCostChanges}
use Rattle.ospf_change.proofs.Diffs.CostLemmas.{changes_are}
use Rattle.std.proofs.lemmas.Result.{IfOk-weaker}
use Rattle.ospf_change.proofs.diff.costs.cost_changes.Goals as goal

pub returns : goal.returns
returns c =
    IfOk-weaker c.changes_between.result _ _
    (λ found is. changes_are (advertisements_of c.args.before.now) (advertisements_of c.args.after.now) c.in_ok-old.old c.in_ok-new.new found.items c.in_ok-old.ensures c.in_ok-new.ensures
    c.changes_between.ensures.ordered is) c.changes_between.ensures.changes
