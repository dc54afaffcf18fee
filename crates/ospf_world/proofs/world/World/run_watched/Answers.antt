use Rattle.std.proofs.Common.{refl, rules, sym, ◌∙◌, arith}
use Rattle.ospf_router.specs.Steps.{is_dropped}
use Rattle.ospf_world.specs.Does.{Does}
use Rattle.ospf_world.specs.Watching.{DoesTold}
use Rattle.ospf_world.proofs.ExactFacts.{told_exact}
use Rattle.ospf_world.proofs.RunFacts.{done, ends_early, goes_err, goes_ok, run_comes, run_headline, run_reached, same_on}
use Rattle.ospf_world.proofs.TickFacts.{sound_between, ticks_further, ticks_nowhere, ticks_once}
use Rattle.ospf_world.proofs.ToldFacts.{run_told}
use Rattle.ospf_world.proofs.Reached.{run_keeping}
use Rattle.ospf_world.proofs.world.World.run_watched.Goals.{in-Ok, in-Err+else-is_memory}
use Rattle.ospf_world.proofs.world.World.run_watched.Goals as goal

pub returns-then-is_memory-clause-run : goal.returns-then-is_memory-clause-run
returns-then-is_memory-clause-run g c = ends_early Does _ _ _ _ _ _ _ _ _ c.loop-event-test.true c.loop-event.invariant.0 c.step_watched.ensures.does c.in-Err.is (sym c.is_memory.ensures ∙ c.if-is_memory.true)

pub returns-then-is_memory-clause-told : goal.returns-then-is_memory-clause-told
returns-then-is_memory-clause-told g c = let memory = sym c.is_memory.ensures ∙ c.if-is_memory.true in search (rules, ends_early)

pub returns-then-is_memory-clause-same : goal.returns-then-is_memory-clause-same
returns-then-is_memory-clause-same g c = same_on _ _ _ c.loop-event.invariant.2 c.step_watched.ensures.same

pub returns-then-is_memory-clause-headline : goal.returns-then-is_memory-clause-headline
returns-then-is_memory-clause-headline g c = run_headline _ _ _ _ (run_comes _ _ _ _ (returns-then-is_memory-clause-run g c)) c.reached.ensures (λ run. c.runs_lead_on.ensures is_dropped _ _ _ _ run) (λ later reached runs. c.headline.ensures is_dropped later _ _ reached runs)

pub loop-event-preserved : goal.loop-event-preserved
loop-event-preserved g c = elim c.match-step_watched.branch [
  | in-Ok w ↦ (goes_ok Does _ _ _ _ _ _ _ _ _ c.loop-event-test.true c.loop-event.invariant.0 c.step_watched.ensures.does w.in-Ok.is w.refused-is, (let h = c.loop-event.invariant.1 in omega arith), same_on _ _ _ c.loop-event.invariant.2 c.step_watched.ensures.same, ticks_further _ _ _ _ _ _ c.loop-event.invariant.3 (ticks_once _ _ _ _ _ _ c.step_watched.ensures.comes c.step_watched.ensures.ticks), search (rules, goes_ok))
  | in-Err+else-is_memory w ↦ (goes_err Does _ _ _ _ _ _ _ _ _ _ c.loop-event-test.true c.loop-event.invariant.0 c.step_watched.ensures.does w.in-Err.is (sym w.is_memory.ensures ∙ w.if-is_memory.false) w.refused-is, (let h = c.loop-event.invariant.1 in omega arith), same_on _ _ _ c.loop-event.invariant.2 c.step_watched.ensures.same, ticks_further _ _ _ _ _ _ c.loop-event.invariant.3 (ticks_once _ _ _ _ _ _ c.step_watched.ensures.comes c.step_watched.ensures.ticks), let refusal = sym w.is_memory.ensures ∙ w.if-is_memory.false in search (rules, goes_err))
]

pub returns-clause-run : goal.returns-clause-run
returns-clause-run g c = done Does _ _ _ _ _ (omega arith) c.loop-event.invariant.0

pub returns-clause-told : goal.returns-clause-told
returns-clause-told g c = done (DoesTold g.W.EventWatch.comes_gives g.W.EventWatch.came_gives) _ _ _ _ _ (omega arith) c.loop-event.invariant.4

pub returns-clause-same : goal.returns-clause-same
returns-clause-same g c = c.loop-event.invariant.2

pub returns-clause-headline : goal.returns-clause-headline
returns-clause-headline g c = run_headline _ _ _ _ (run_comes _ _ _ _ (returns-clause-run g c)) c.reached.ensures (λ run. c.runs_lead_on.ensures is_dropped _ _ _ _ run) (λ later reached runs. c.headline.ensures is_dropped later _ _ reached runs)

pub returns-clause-reached : goal.returns-clause-reached
returns-clause-reached g c = run_reached _ _ _ _ (run_comes _ _ _ _ (returns-clause-run g c)) c.reached.ensures (λ run. c.runs_lead_on.ensures is_dropped _ _ _ _ run)

pub returns-then-is_memory-clause-sound : goal.returns-then-is_memory-clause-sound
returns-then-is_memory-clause-sound g c =
    sound_between (λ event before after reached happens. c.soundness.ensures is_dropped event before after reached happens) _ _ c.reached.ensures
    (c.runs_lead_on.ensures is_dropped _ _ _ _ (run_comes _ _ _ _ (returns-then-is_memory-clause-run g c)))

pub returns-then-is_memory-clause-ticks : goal.returns-then-is_memory-clause-ticks
returns-then-is_memory-clause-ticks g c = ticks_further _ _ _ _ _ _ c.loop-event.invariant.3 (ticks_once _ _ _ _ _ _ c.step_watched.ensures.comes c.step_watched.ensures.ticks)

pub returns-clause-sound : goal.returns-clause-sound
returns-clause-sound g c =
    sound_between (λ event before after reached happens. c.soundness.ensures is_dropped event before after reached happens) _ _ c.reached.ensures
    (c.runs_lead_on.ensures is_dropped _ _ _ _ (run_comes _ _ _ _ (returns-clause-run g c)))

pub returns-clause-ticks : goal.returns-clause-ticks
returns-clause-ticks g c = c.loop-event.invariant.3

pub loop-event-init : goal.loop-event-init
loop-event-init g c = ((refl, refl), omega arith, record { configs = refl; offered = refl }, ticks_nowhere _ _ _ _ refl refl, (refl, refl))

pub returns-then-is_memory-clause-exact : goal.returns-then-is_memory-clause-exact
returns-then-is_memory-clause-exact g c = told_exact _ _ _ _ (run_told _ _ _ _ _ _ (returns-then-is_memory-clause-told g c)) c.reached_exactly.ensures

pub returns-clause-exact : goal.returns-clause-exact
returns-clause-exact g c = told_exact _ _ _ _ (run_told _ _ _ _ _ _ (returns-clause-told g c)) c.reached_exactly.ensures

pub returns-then-is_memory-clause-lawful : goal.returns-then-is_memory-clause-lawful
returns-then-is_memory-clause-lawful g c = run_keeping _ _ _ _ (returns-then-is_memory-clause-run g c)

pub returns-clause-lawful : goal.returns-clause-lawful
returns-clause-lawful g c = run_keeping _ _ _ _ (returns-clause-run g c)
