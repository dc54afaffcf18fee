use Rattle.std.proofs.Common.{refl, sym, subst, arith}
use Rattle.ospf_commands.proofs.Deliveries.ProgressFacts.{on_nowhere, word_then_events}
use Rattle.rand_pcg.specs.Lcg.{Lcg, increment_of, started}
use Rattle.rand_pcg.specs.Pcg.{multiplier_64}
use Rattle.ospf_commands.proofs.Chances.{LeadsOn, leads_at_start, leads_further, leads_to_end, leads_to_refusal}
use Rattle.ospf_commands.proofs.rounds.draw.Goals as goal

pub loop-done-init : goal.loop-done-init
loop-done-init g c = record {
  within = omega arith;
  leads = subst (λ (x : Lcg). LeadsOn c.args.count 0 (started 64 multiplier_64 c.args.number (increment_of 64 0)) x c.args.world.now c.args.world.now)
      (sym c.new-generator.ensures) (leads_at_start _ _ _);
  told = on_nowhere _ _ _ _ _ refl;
}

pub loop-done-preserved : goal.loop-done-preserved
loop-done-preserved g c = record {
  within = omega arith;
  leads = leads_further _ _ _ _ _ _ _ _ _ (omega arith) c.loop-done.invariant.leads (c.in-Ok.ensures.random) (c.in-Ok.ensures.drawn);
  told = word_then_events _ _ _ _ _ _ _ _ c.loop-done.invariant.told c.draws_events.ensures c.draw_events_watched.ensures.told;
}

pub returns-in-Err-clause-random : goal.returns-in-Err-clause-random
returns-in-Err-clause-random g c = leads_to_refusal _ _ _ _ _ _ _ _ _ (omega arith) c.loop-done.invariant.leads c.in-Err.ensures.random

pub returns-in-Err-clause-told : goal.returns-in-Err-clause-told
returns-in-Err-clause-told g c = word_then_events _ _ _ _ _ _ _ _ c.loop-done.invariant.told c.draws_events.ensures c.draw_events_watched.ensures.told

pub returns-clause-random : goal.returns-clause-random
returns-clause-random g c = leads_to_end _ _ _ _ _ _ c.loop-done-test.false c.loop-done.invariant.leads
