use Rattle.std.proofs.Common.{◌≡◌, take}
use Rattle.ospf_commands.specs.Deliveries.Batches.{queued, queues_of}
use Rattle.ospf_commands.proofs.Deliveries.BatchFacts.{no_events}
use Rattle.ospf_commands.proofs.delivery.queues.queues_of.Given as goal

abbrev pub invariant-loop : goal.invariant-loop
invariant-loop l = queued l.queues.items ≡ no_events l.counter

abbrev pub invariant-loop-event : goal.invariant-loop-event
invariant-loop-event l = queued l.queues.items ≡ queues_of l.world.slots (take l.event-index l.events)
