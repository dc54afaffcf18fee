use Rattle.std.proofs.Common.{refl}
use Rattle.ospf_commands.proofs.Deliveries.ProgressFacts.{on_nowhere, word_then_events}
use Rattle.ospf_commands.proofs.Leading.{leads_at_start, leads_further, leads_to_end, leads_to_refusal}
use Rattle.ospf_commands.proofs.rounds.run_batches.Goals as goal

pub loop-done-init : goal.loop-done-init
loop-done-init g c = record { leads = leads_at_start _ _ _; told = on_nowhere _ _ _ _ _ refl }

pub loop-done-preserved : goal.loop-done-preserved
loop-done-preserved g c = record {
  leads = leads_further _ _ _ _ _ _ c.loop-done-test.true c.loop-done.invariant.leads (c.batch.new.world, c.in-Ok.ensures.batch, refl);
  told = word_then_events _ _ _ _ _ _ _ _ c.loop-done.invariant.told c.begins_round.ensures c.batch.ensures.told;
}

pub returns-in-Err-clause-batches : goal.returns-in-Err-clause-batches
returns-in-Err-clause-batches g c = leads_to_refusal _ _ _ _ _ _ _ c.loop-done-test.true c.loop-done.invariant.leads (c.batch.new.world, c.in-Err.ensures.batch, refl)

pub returns-in-Err-clause-told : goal.returns-in-Err-clause-told
returns-in-Err-clause-told g c = word_then_events _ _ _ _ _ _ _ _ c.loop-done.invariant.told c.begins_round.ensures c.batch.ensures.told

pub returns-clause-batches : goal.returns-clause-batches
returns-clause-batches g c = leads_to_end _ _ _ _ _ c.loop-done-test.false c.loop-done.invariant.leads
