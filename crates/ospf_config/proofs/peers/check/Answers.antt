use Rattle.std.proofs.Common.{sym, ◌∙◌, arith}
use Rattle.std.proofs.lemmas.Bool.{iff_false}
use Rattle.ospf_config.proofs.PeerLists.{type_fault, range_fault, ports_from}
use Rattle.ospf_config.proofs.peers.check.Goals as goal
use Rattle.ospf_config.proofs.peers.check.Goals.{then-values-gt-MOST_PEERS-via-then-values-gt-MOST_PEERS, then-values-gt-MOST_PEERS-via-else-values-gt-MOST_PEERS+then-not-are_ports}

pub returns-then-not-are_integers-clause-fault : goal.returns-then-not-are_integers-clause-fault
returns-then-not-are_integers-clause-fault c = type_fault c.args.values.now (sym c.are_integers.ensures ∙ c.if-not-are_integers.true)

pub returns-then-values-gt-MOST_PEERS-clause-fault : goal.returns-then-values-gt-MOST_PEERS-clause-fault
returns-then-values-gt-MOST_PEERS-clause-fault c = range_fault c.args.values.now (sym c.are_integers.ensures ∙ c.if-not-are_integers.false) (λ ports is few.
    let from = ports_from c.args.values.now ports is in
    elim c.then-values-gt-MOST_PEERS.branch [
      | then-values-gt-MOST_PEERS-via-then-values-gt-MOST_PEERS w ↦ omega (arith, from.1)
      | then-values-gt-MOST_PEERS-via-else-values-gt-MOST_PEERS+then-not-are_ports w ↦ iff_false w.are_ports.ensures w.if-not-are_ports.true from.0
    ])

pub returns-clause-ports : goal.returns-clause-ports
returns-clause-ports c = c.are_ports.ensures.0 c.if-not-are_ports.false
