use Rattle.std.proofs.Common.{◌≡◌, ◌∙◌, ◌++◌, List, ap, arith, sym}
use Rattle.ospf_base.specs.declared.event.event.WorldEvent.{WorldEvent}
use Rattle.ospf_world.specs.Rounds.{offers_of}
use Rattle.ospf_commands.proofs.Deliveries.BatchFacts.{offers_more}
use Rattle.ospf_commands.proofs.delivery.batches.waiting_offers.Goals as goal

pub loop-place-preserved : goal.loop-place-preserved
loop-place-preserved c =
    let w = c.args.world.now in
    let g = c.index-datagrams-place.result in
    let log : c.datagrams-datagrams.result.now ≡ w.logs.datagrams = c.datagrams-datagrams.ensures in
    record {
      low = omega arith;
      events =
          c.in_ok-extend_from_slice.ensures.items
          ∙ ap (λ (es : List WorldEvent). c.loop-place.events.items ++ es) (c.deref.ensures.value ∙ c.in_ok-offers.ensures)
          ∙ ap (λ (es : List WorldEvent). es ++ offers_of w.slots c.loop-place.place g) c.loop-place.invariant.events
          ∙ sym (offers_more w.slots w.offered w.logs.datagrams c.loop-place.place g c.loop-place.invariant.low (rw (← log) c.loop-place-test.true) (rw (← log) c.index-datagrams-place.is));
    }
