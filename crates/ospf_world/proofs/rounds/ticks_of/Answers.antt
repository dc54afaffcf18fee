use Rattle.std.proofs.Common.{◌≢◌, []}
use Rattle.ospf_lsa.proofs.PutLemmas.{on_err}
use Rattle.ospf_world.specs.Rounds.{ticks}
use Rattle.ospf_world.proofs.RoundFacts.{some_ticks}
use Rattle.ospf_world.proofs.rounds.ticks_of.Goals as goal

pub returns-in_err-push_tick-clause-room : goal.returns-in_err-push_tick-clause-room
returns-in_err-push_tick-clause-room c =
    on_err c.from_residual.result (ticks c.args.slots.now ≢ [])
    (some_ticks c.args.slots.now c.loop-slot.slot-index c.slot-item.result c.loop-slot-test.true c.slot-item.is c.in_err-push_tick.ensures.room)
