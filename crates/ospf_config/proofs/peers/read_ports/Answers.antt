use Rattle.std.proofs.Common.{arith}
use Rattle.ospf_config.proofs.PeerLists.{to_ports, ports_from}
use Rattle.ospf_config.proofs.peers.read_ports.Goals as goal

pub returns-clause-reads : goal.returns-clause-reads
returns-clause-reads c = to_ports c.args.values.now c.in_ok-ports.ports.items c.in_ok-ports.ensures c.in_ok-check.ensures.few

pub returns-clause-few : goal.returns-clause-few
returns-clause-few c =
    let from = ports_from c.args.values.now c.in_ok-ports.ports.items c.in_ok-ports.ensures in
    let few = c.in_ok-check.ensures.few in omega (arith, from.1)
