use Rattle.ospf_config.proofs.PeerLists.{no_fault, from_peers}
use Rattle.ospf_config.proofs.peers.peers_fault.Goals as goal

pub returns-in-Ok : goal.returns-in-Ok
returns-in-Ok c f reads =
    let here = from_peers _ _ _ c.in-Some.ensures c.in-Some-as_array.ensures _ reads in
    no_fault c.in-Some-as_array.values.now.items (rw (← c.deref.ensures.value) c.in-Ok.ensures.ports) (rw (← c.deref.ensures.value) c.in-Ok.ensures.few) f here
