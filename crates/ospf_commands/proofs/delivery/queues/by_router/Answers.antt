use Rattle.std.proofs.Common.{◌≤◌, ◌∙◌, List, ap, length}
use Rattle.std.proofs.lemmas.List.{take_all}
use Rattle.std.specs.Global.{Vec}
use Rattle.std.specs.List.{flat_map}
use Rattle.ospf_base.specs.declared.event.event.WorldEvent.{WorldEvent}
use Rattle.ospf_commands.proofs.Deliveries.BatchFacts.{joined}
use Rattle.ospf_commands.proofs.delivery.queues.by_router.Goals as goal

pub returns : goal.returns
returns c =
    let all : length c.deref-queue-items.result.now ≤ c.loop-queue.queue-index = c.loop-queue-test.false in
    c.loop-queue.invariant
    ∙ ap (λ (qs : List (Vec WorldEvent)). flat_map (λ (q : Vec WorldEvent). q.items) qs)
    (take_all c.loop-queue.queue-index c.deref-queue-items.result.now all ∙ c.deref-queue-items.ensures.value)
    ∙ joined c.in_ok-queues.queues.items ∙ ap (λ (qs : List (List WorldEvent)). flat_map (λ (q : List WorldEvent). q) qs) c.in_ok-queues.ensures
