use Rattle.std.proofs.Common.{refl}
use Rattle.ospf_config.proofs.PeerLists.{port_read}
use Rattle.ospf_config.proofs.peers.is_port.Goals as goal

pub returns-in-Ok : goal.returns-in-Ok
returns-in-Ok c = ((λ _. port_read _ c.in-Ok.field-0 c.in-Ok.ensures), λ _. refl)
