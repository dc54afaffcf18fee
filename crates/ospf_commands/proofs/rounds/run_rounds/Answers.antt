use Rattle.std.proofs.Common.{refl, subst, ℕ, Ok, Err}
use Rattle.ospf_commands.proofs.Deliveries.ProgressFacts.{on_nowhere, word_then_events}
use Rattle.ospf_commands.specs.Rounds.{AreRounds}
use Rattle.ospf_commands.specs.Simulations.{unsettled}
use Rattle.ospf_commands.proofs.Leading.{leads_at_start, leads_further, leads_to_end, leads_to_refusal}
use Rattle.ospf_commands.proofs.rounds.run_rounds.Goals as goal

pub loop-done-init : goal.loop-done-init
loop-done-init g c = record { leads = leads_at_start _ _ _; told = on_nowhere _ _ _ _ _ refl }

pub loop-done-preserved : goal.loop-done-preserved
loop-done-preserved g c = record {
  leads = leads_further _ _ _ _ _ _ c.loop-done-test.true c.loop-done.invariant.leads c.in-Ok.ensures.round;
  told = word_then_events _ _ _ _ _ _ _ _ c.loop-done.invariant.told c.begins_round.ensures c.run_round.ensures.told;
}

pub returns-in-Err-clause-rounds : goal.returns-in-Err-clause-rounds
returns-in-Err-clause-rounds g c =
    subst (λ (m : ℕ). AreRounds m c.args.count (unsettled c.args.simulation.now) (Err c.in-Err.fault) c.run_round.new.simulation) c.most_of-most.ensures
    (leads_to_refusal _ _ _ _ _ _ _ c.loop-done-test.true c.loop-done.invariant.leads c.in-Err.ensures.round)

pub returns-in-Err-clause-told : goal.returns-in-Err-clause-told
returns-in-Err-clause-told g c = word_then_events _ _ _ _ _ _ _ _ c.loop-done.invariant.told c.begins_round.ensures c.run_round.ensures.told

pub returns-clause-rounds : goal.returns-clause-rounds
returns-clause-rounds g c =
    subst (λ (m : ℕ). AreRounds m c.args.count (unsettled c.args.simulation.now) (Ok tt) c.loop-done.simulation) c.most_of-most.ensures
    (leads_to_end _ _ _ _ _ c.loop-done-test.false c.loop-done.invariant.leads)
