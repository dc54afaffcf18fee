use Rattle.std.proofs.Common.{sym, ◌∙◌}
use Rattle.ospf_spf.proofs.incremental.shrink.is_closed.Goals as goal
use Rattle.ospf_spf.proofs.incremental.shrink.is_closed.Goals.{else-not-is_among, then-not-is_among}

pub returns-then-lead_to-clause-less : goal.returns-then-lead_to-clause-less
returns-then-lead_to-clause-less c holds =
    elim c.if-not-is_among.branch [
      | then-not-is_among w ↦ w.lead_to.ensures (sym w.value-is ∙ c.if-lead_to.true)
      | else-not-is_among w ↦ (let is = w.value-is in let yes' = c.if-lead_to.true in cc)
    ]
