use Rattle.std.proofs.Common.{◌≡◌, take}
use Rattle.std.specs.Global.{Vec}
use Rattle.std.specs.List.{flat_map}
use Rattle.ospf_base.specs.declared.event.event.WorldEvent.{WorldEvent}
use Rattle.ospf_commands.proofs.delivery.queues.by_router.Given as goal

abbrev pub invariant-loop-queue : goal.invariant-loop-queue
invariant-loop-queue l = l.sorted.items ≡ flat_map (λ (q : Vec WorldEvent). q.items) (take l.queue-index l.queue-items)
