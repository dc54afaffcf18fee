use Rattle.std.proofs.Common.{◌≡◌, OnOk, rules, subst}
use Rattle.ospf_journal.specs.Seen.{SeenValue}
use Rattle.ospf_sim.proofs.EventFacts.{lent_changed, lent_runs, lent_seen, not_lent}
use Rattle.ospf_sim.proofs.events.go_to.Goals as goal

pub returns-in-Ok-clause-changes : goal.returns-in-Ok-clause-changes
returns-in-Ok-clause-changes c = lent_changed _ _ _ _ c.args.reported _ (lent_runs _ _ _ _ c.router.ensures c.in-Ok.is) c.follow.ensures.changes

pub returns-in-Ok-clause-seen : goal.returns-in-Ok-clause-seen
returns-in-Ok-clause-seen c = subst (λ (s : SeenValue). OnOk c.follow.result (c.follow.new.self ≡ s)) (lent_seen _ _ _ (lent_runs _ _ _ _ c.router.ensures c.in-Ok.is)) c.follow.ensures.seen

pub returns-in-Err-clause-changes : goal.returns-in-Err-clause-changes
returns-in-Err-clause-changes c = rw (not_lent _ _ _ _ c.router.ensures c.in-Err.is) (search rules)

pub returns-in-Err-clause-seen : goal.returns-in-Err-clause-seen
returns-in-Err-clause-seen c = rw (not_lent _ _ _ _ c.router.ensures c.in-Err.is) (search rules)
