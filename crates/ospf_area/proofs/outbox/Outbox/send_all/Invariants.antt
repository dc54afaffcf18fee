use Rattle.std.proofs.Common.{◌≡◌}
use Rattle.ospf_area.specs.Sending.{and_sends}
use Rattle.ospf_area.specs.Outboxes.{posted_all}
use Rattle.ospf_area.proofs.outbox.Outbox.send_all.Given as goal

-- what is left is still to go out
abbrev pub invariant-loop-packet : goal.invariant-loop-packet
invariant-loop-packet l =
    and_sends l.out (posted_all l.own l.link l.iface l.packet-iterator.rest.items) ≡ and_sends l.fn.out (posted_all l.own l.link l.iface l.fn.self.sent)
