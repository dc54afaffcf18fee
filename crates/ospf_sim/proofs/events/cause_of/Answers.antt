use Rattle.std.proofs.Common.{◌∙◌, ap, refl}
use Rattle.ospf_world.specs.Running.{delivery}
use Rattle.ospf_journal.specs.Causes.{cause_of}
use Rattle.ospf_sim.proofs.EventFacts.{lent_runs, lent_state, not_lent}
use Rattle.ospf_sim.proofs.events.cause_of.Goals as goal

pub returns-in_default : goal.returns-in_default
returns-in_default c = rw (not_lent _ _ _ _ c.router.ensures c.in_default.is) refl

pub returns : goal.returns
returns c =
    let lent = lent_runs _ _ _ _ c.router.ensures c.in-Ok.is in
    c.cause_in.ensures ∙ ap (cause_of (delivery c.args.link c.args.datagram.now)) (lent_state _ _ _ lent)
