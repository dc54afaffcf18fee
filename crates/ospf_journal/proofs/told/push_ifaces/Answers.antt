use Rattle.ospf_journal.proofs.IfaceFacts.{one_iface_more}
use Rattle.ospf_journal.proofs.told.push_ifaces.Goals as goal

pub loop-link-preserved : goal.loop-link-preserved
loop-link-preserved c =
    one_iface_more _ _ _ c.args.before.now c.args.now.now c.loop-link.link c.iface_on.result c.iface_on-in-loop-link.result c.loop-link.invariant c.iface_on.ensures c.iface_on-in-loop-link.ensures c.in_ok-push_iface.ensures
