use Rattle.ospf_plan.proofs.StartedLemmas.{sends_from, stays_at, stays_configured}
use Rattle.ospf_plan.proofs.laws.routers_stay_configured.Goals as goal

pub returns-clause-configured : goal.returns-clause-configured
returns-clause-configured c = stays_configured

pub returns-clause-at : goal.returns-clause-at
returns-clause-at c = stays_at

pub returns-clause-sent : goal.returns-clause-sent
returns-clause-sent c = sends_from
