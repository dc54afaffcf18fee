use Rattle.std.proofs.Common.{◌≡◌, ◌++◌, map}
use Rattle.ospf_world.specs.Logs.{sent_as_datagram}
use Rattle.ospf_world.proofs.logs.log_sent.Given as goal

abbrev pub invariant-loop-datagram : goal.invariant-loop-datagram
invariant-loop-datagram l = l.log.items ≡ l.initial.log.items ++ map (sent_as_datagram l.router) l.yielded
