use Rattle.std.proofs.Common.{◌≡◌, ◌∙◌, ◌<◌, ◌++◌, ◌∷◌, [], List, ap, arith, length, sym, take}
use Rattle.std.specs.Global.{Vec}
use Rattle.ospf_world.specs.Slots.{SlotValue}
use Rattle.ospf_base.specs.declared.event.event.WorldEvent.{WorldEvent}
use Rattle.ospf_commands.specs.Deliveries.Batches.{queued}
use Rattle.ospf_commands.proofs.Deliveries.BatchFacts.{no_events, one_empty_more, queue_count, queued_length, queued_push, queues_begin, queues_step}
use Rattle.ospf_world.proofs.PlaceFacts.{at_within, placed}
use Rattle.ospf_commands.proofs.delivery.queues.queues_of.Goals as goal

pub loop-preserved : goal.loop-preserved
loop-preserved c =
    ap (λ (qs : List (Vec WorldEvent)). queued qs) c.in_ok-push.ensures.items
    ∙ queued_push c.loop.queues.items c.new.result
    ∙ ap (λ (es : List WorldEvent). queued c.loop.queues.items ++ es ∷ []) c.new.ensures.items
    ∙ ap (λ (qs : List (List WorldEvent)). qs ++ [] ∷ []) c.loop.invariant
    ∙ one_empty_more c.loop.counter

pub loop-event-init : goal.loop-event-init
loop-event-init c =
    let slots : c.slots-count.result.now ≡ c.args.world.now.slots = c.slots-count.ensures in
    let count : c.loop.counter ≡ length c.slots-count.result.now = omega arith in
    c.loop.invariant ∙ ap no_events (count ∙ ap (λ (ss : List SlotValue). length ss) slots)
    ∙ sym (queues_begin c.args.world.now.slots 0 (length c.args.world.now.slots))

pub put_in_queue-requires : goal.put_in_queue-requires
put_in_queue-requires c = record {
  within = λ place at.
      let within : place < length c.args.world.now.slots = at_within _ _ _ (placed _ _ _ at) in
      let count : length c.loop-event.queues.items ≡ length c.args.world.now.slots =
      sym (queued_length c.loop-event.queues.items) ∙ ap (λ (qs : List (List WorldEvent)). length qs) c.loop-event.invariant
      ∙ queue_count c.args.world.now.slots 0 (length c.args.world.now.slots) (take c.loop-event.event-index c.args.events.now) in
      omega (arith, within, count);
}

pub loop-event-preserved : goal.loop-event-preserved
loop-event-preserved c =
    queues_step c.args.world.now.slots c.args.events.now c.loop-event.event-index _ (queued c.loop-event.queues.items) (queued c.put_in_queue.new.queues.items) c.loop-event-test.true
    c.loop-event.invariant (λ k at. c.in_ok-put_in_queue.ensures.some k at) (λ at. c.in_ok-put_in_queue.ensures.none at)
