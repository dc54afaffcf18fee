use Rattle.std.proofs.Common.{Some, subst, sym}
use Rattle.ospf_config.specs.declared.interface.Port.{Port}
use Rattle.ospf_drive.specs.UdpWire.Faults.{IsRefusedAt, IsUnopenedAt}
use Rattle.ospf_drive.specs.declared.udp.fault.OpenFault.{OpenFault}
use Rattle.ospf_drive.specs.declared.udp.fault.OpenFault.TheVariants as fault
use Rattle.ospf_drive.proofs.udp.sockets.open_outlet.Goals as goal

-- the socket of a port was refused
refused : (port : Port) (f : OpenFault) → IsRefusedAt (Some port) f → IsUnopenedAt (Some port) f
refused port fault.NoPort at = absurd at
refused port (fault.Socket none) at = at
refused port fault.Memory at = tt

pub returns-in_default-clause-fault : goal.returns-in_default-clause-fault
returns-in_default-clause-fault g c = c.in_default.is

pub returns-in-Err-clause-fault : goal.returns-in-Err-clause-fault
returns-in-Err-clause-fault g c = subst (λ p. IsUnopenedAt p c.socket_fault.result) (sym c.in-Some.is) (refused c.in-Some.port c.socket_fault.result c.socket_fault.ensures)
