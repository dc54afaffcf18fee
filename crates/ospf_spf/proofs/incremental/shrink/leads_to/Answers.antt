use Rattle.ospf_spf.proofs.incremental.shrink.leads_to.Goals as goal

pub returns-then-not-is_tight : goal.returns-then-not-is_tight
returns-then-not-is_tight c holds d from to = absurd (c.is_tight.ensures c.if-not-is_tight.true d from to)
