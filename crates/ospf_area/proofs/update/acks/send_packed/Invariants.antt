-- ospf_update/proofs/acks/send_packed/Invariants.antt
use Rattle.std.proofs.Common.{◌≡◌, length}
use Rattle.ospf_area.specs.Outboxes.{and_packets}
use Rattle.ospf_area.specs.Updates.Acks.{packed_packets}
use Rattle.ospf_area.proofs.update.acks.send_packed.Given as goal

abbrev pub invariant-loop-rest : goal.invariant-loop-rest
invariant-loop-rest l = and_packets l.outbox (packed_packets l.destination l.room l.rest) ≡ and_packets l.initial.outbox (packed_packets l.destination l.room l.initial.rest)

abbrev pub decreases-loop-rest : goal.decreases-loop-rest
decreases-loop-rest l = length l.rest
