use Rattle.std.proofs.Common.{refl, rules}
use Rattle.ospf_commands.proofs.Deliveries.BatchFacts.{taken_ends, taken_last, taken_more}
use Rattle.ospf_world.proofs.TickFacts.{ticks_further, ticks_nowhere}
use Rattle.ospf_world.proofs.ToldFacts.{told_further, told_nowhere}
use Rattle.ospf_commands.proofs.delivery.batches.take_waves.Goals as goal

pub returns-in-Ok-false-clause-taken : goal.returns-in-Ok-false-clause-taken
returns-in-Ok-false-clause-taken g c = taken_last c.args.most c.loop-i.i c.args.world.now c.loop-i.world c.take_wave.new.world c.take_wave.result c.in-Ok-false.field-0 c.loop-i-test.true c.take_wave.ensures.takes c.in-Ok-false.is c.in-Ok-false.field-0-test c.loop-i.invariant.comes

pub returns-in-Err-clause-taken : goal.returns-in-Err-clause-taken
returns-in-Err-clause-taken g c = taken_ends c.args.most c.loop-i.i c.args.world.now c.loop-i.world c.take_wave.new.world c.take_wave.result c.in-Err.fault c.loop-i-test.true c.take_wave.ensures.takes c.in-Err.is c.loop-i.invariant.comes

pub loop-i-preserved : goal.loop-i-preserved
loop-i-preserved g c = record {
  comes = taken_more c.args.most c.loop-i.i c.args.world.now c.loop-i.world c.take_wave.new.world c.take_wave.result c.in-Ok-true.field-0 c.loop-i-test.true c.take_wave.ensures.takes c.in-Ok-true.is c.in-Ok-true.field-0-test c.loop-i.invariant.comes;
  ticks = ticks_further _ _ _ _ _ _ c.loop-i.invariant.ticks c.take_wave.ensures.ticks;
  told = told_further _ _ _ _ _ c.loop-i.invariant.told c.take_wave.ensures.told;
}

pub returns-in-Ok-false-clause-ticks : goal.returns-in-Ok-false-clause-ticks
returns-in-Ok-false-clause-ticks g c = ticks_further _ _ _ _ _ _ c.loop-i.invariant.ticks c.take_wave.ensures.ticks

pub returns-in-Err-clause-ticks : goal.returns-in-Err-clause-ticks
returns-in-Err-clause-ticks g c = ticks_further _ _ _ _ _ _ c.loop-i.invariant.ticks c.take_wave.ensures.ticks

pub loop-i-init : goal.loop-i-init
loop-i-init g c = record {
  comes = search rules;
  ticks = ticks_nowhere _ _ _ _ refl refl;
  told = told_nowhere _ _ _ _ refl;
}

pub returns-in-Ok-false-clause-told : goal.returns-in-Ok-false-clause-told
returns-in-Ok-false-clause-told g c = told_further _ _ _ _ _ c.loop-i.invariant.told c.take_wave.ensures.told

pub returns-in-Err-clause-told : goal.returns-in-Err-clause-told
returns-in-Err-clause-told g c = told_further _ _ _ _ _ c.loop-i.invariant.told c.take_wave.ensures.told
