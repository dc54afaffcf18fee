use Rattle.ospf_config.proofs.PeerLists.{ports_more, port_value}
use Rattle.ospf_config.proofs.peers.ports_of.Goals as goal

pub loop-value-preserved : goal.loop-value-preserved
loop-value-preserved c =
    rw c.in_ok-push-in-Ok.ensures.items
    (ports_more c.args.values.now c.loop-value.value-index c.value-item.result c.loop-value.ports.items c.in-Ok.port c.loop-value-test.true c.value-item.is
    c.loop-value.invariant (port_value _ c.in-Ok.port c.in-Ok.ensures))
