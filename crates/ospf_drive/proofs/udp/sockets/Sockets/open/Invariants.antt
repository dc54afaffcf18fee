use Rattle.std.proofs.Common.{All, IsSome, take}
use Rattle.ospf_drive.proofs.udp.sockets.Sockets.open.Given as goal

-- the interfaces so far have ports
abbrev pub invariant-loop-interface : goal.invariant-loop-interface
invariant-loop-interface g l = All (λ i. IsSome i.port) (take l.interface-index l.config.interfaces.items)
