use Rattle.std.proofs.Common.{◌≡◌, ◌∙◌, sym}
use Rattle.ospf_change.proofs.Edits.CostLemmas.{all_keep, all_kept}
use Rattle.ospf_change.proofs.edit.applied.keeps_all.Goals as goal

pub returns-else-not-changes_costs_of : goal.returns-else-not-changes_costs_of
returns-else-not-changes_costs_of c =
    let change = c.args.change.now in
    let links = c.args.links.now in
    rw (sym c.changes_costs_of.ensures ∙ c.if-not-changes_costs_of.false) (
      λ t. all_keep change links links (sym c.keep_costs.ensures ∙ t),
      λ same. c.keep_costs.ensures ∙ all_kept change links links same,
    )
