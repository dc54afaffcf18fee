use Rattle.std.proofs.Common.{refl, rules}
use Rattle.ospf_commands.proofs.Deliveries.LossFacts.{loses_end, loses_last, loses_more}
use Rattle.ospf_world.proofs.TickFacts.{ticks_further, ticks_nowhere}
use Rattle.ospf_world.proofs.ToldFacts.{told_further, told_nowhere}
use Rattle.ospf_commands.proofs.delivery.losing.offer_but.Goals as goal

pub returns-in-Ok-false-clause-offered : goal.returns-in-Ok-false-clause-offered
returns-in-Ok-false-clause-offered g c = loses_last c.args.most c.loop-i.i c.args.world.now c.loop-i.world c.offer_kept.new.world c.args.losses.now c.loop-i.losses c.offer_kept.new.losses c.offer_kept.result c.in-Ok-false.field-0 c.loop-i-test.true c.offer_kept.ensures.offers c.in-Ok-false.is c.in-Ok-false.field-0-test c.loop-i.invariant.comes

pub returns-in-Err-clause-offered : goal.returns-in-Err-clause-offered
returns-in-Err-clause-offered g c = loses_end c.args.most c.loop-i.i c.args.world.now c.loop-i.world c.offer_kept.new.world c.args.losses.now c.loop-i.losses c.offer_kept.new.losses c.offer_kept.result c.in-Err.fault c.loop-i-test.true c.offer_kept.ensures.offers c.in-Err.is c.loop-i.invariant.comes

pub loop-i-preserved : goal.loop-i-preserved
loop-i-preserved g c = record {
  comes = loses_more c.args.most c.loop-i.i c.args.world.now c.loop-i.world c.offer_kept.new.world c.args.losses.now c.loop-i.losses c.offer_kept.new.losses c.offer_kept.result c.in-Ok-true.field-0 c.loop-i-test.true c.offer_kept.ensures.offers c.in-Ok-true.is c.in-Ok-true.field-0-test c.loop-i.invariant.comes;
  ticks = ticks_further _ _ _ _ _ _ c.loop-i.invariant.ticks c.offer_kept.ensures.ticks;
  told = told_further _ _ _ _ _ c.loop-i.invariant.told c.offer_kept.ensures.told;
}

pub returns-in-Ok-false-clause-ticks : goal.returns-in-Ok-false-clause-ticks
returns-in-Ok-false-clause-ticks g c = ticks_further _ _ _ _ _ _ c.loop-i.invariant.ticks c.offer_kept.ensures.ticks

pub returns-in-Err-clause-ticks : goal.returns-in-Err-clause-ticks
returns-in-Err-clause-ticks g c = ticks_further _ _ _ _ _ _ c.loop-i.invariant.ticks c.offer_kept.ensures.ticks

pub loop-i-init : goal.loop-i-init
loop-i-init g c = record {
  comes = search rules;
  ticks = ticks_nowhere _ _ _ _ refl refl;
  told = told_nowhere _ _ _ _ refl;
}

pub returns-in-Ok-false-clause-told : goal.returns-in-Ok-false-clause-told
returns-in-Ok-false-clause-told g c = told_further _ _ _ _ _ c.loop-i.invariant.told c.offer_kept.ensures.told

pub returns-in-Err-clause-told : goal.returns-in-Err-clause-told
returns-in-Err-clause-told g c = told_further _ _ _ _ _ c.loop-i.invariant.told c.offer_kept.ensures.told
