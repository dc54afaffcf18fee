use Rattle.std.proofs.Common.{subst}
use Rattle.ospf_drive.proofs.UdpWire.Opened.{port_in}
use Rattle.ospf_drive.specs.UdpWire.Faults.{IsUnopened}
use Rattle.ospf_run.proofs.Wired.{none_missing}
use Rattle.ospf_run.proofs.wires.open_wire.Goals as goal

pub unreachable-requires : goal.unreachable-requires
unreachable-requires g c =
    none_missing c.args.config.now c.requires (subst (IsUnopened c.args.config.now.interfaces.items) c.in-Err-NoPort.field-0-is c.in-Err-NoPort.ensures.fault)

pub returns-in-Err-Socket-clause-not_opened : goal.returns-in-Err-Socket-clause-not_opened
returns-in-Err-Socket-clause-not_opened g c =
    port_in c.args.config.now.interfaces.items c.in-Err-Socket.no_socket.port
    (subst (IsUnopened c.args.config.now.interfaces.items) c.in-Err-Socket.field-0-is c.in-Err-Socket.ensures.fault)
