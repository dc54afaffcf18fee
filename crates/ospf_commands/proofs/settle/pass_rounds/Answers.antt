use Rattle.std.proofs.Common.{◌≡◌, ◌∙◌, ap, refl, sym, subst, arith, ℕ, ◌+◌, ◌≤◌, Ok, flat_map}
use Rattle.ospf_commands.proofs.Deliveries.ProgressFacts.{on_nowhere, word_then_events}
use Rattle.ospf_commands.specs.Settling.{Passes, sight}
use Rattle.ospf_views.specs.Sight.{slot_sight}
use Rattle.ospf_commands.proofs.Settling.{Passed, ends_in_round, ends_in_storm, ends_settled, ends_unsettled, no_room_at_start, no_room_behind, passed_none, passed_other, passed_same}
use Rattle.ospf_commands.proofs.Same.{are_not_same, are_same}
use Rattle.ospf_commands.specs.declared.settle.Outcome.TheVariants as outcome
use Rattle.ospf_commands.proofs.settle.pass_rounds.Goals as goal
use Rattle.ospf_commands.proofs.settle.pass_rounds.Goals.{then-eq, else-eq}

pub loop-done-init : goal.loop-done-init
loop-done-init g c = record {
  passed = passed_none c.args.still c.args.simulation.now;
  seen = c.in-Ok.ensures ∙ ap (flat_map slot_sight) c.slots.ensures;
  told = on_nowhere _ _ _ _ _ refl;
}

pub returns-in_default-clause-passes : goal.returns-in_default-clause-passes
returns-in_default-clause-passes g c = no_room_at_start c.args.most c.args.still c.args.simulation.now

pub returns-then-unchanged-still-clause-passes : goal.returns-then-unchanged-still-clause-passes
returns-then-unchanged-still-clause-passes g c =
    ends_settled c.args.most c.args.still c.args.simulation.now c.loop-done.simulation c.loop-done.done c.loop-done.unchanged (omega arith) c.if-unchanged-still.true c.loop-done.invariant.passed

pub returns-in-Err-clause-passes : goal.returns-in-Err-clause-passes
returns-in-Err-clause-passes g c =
    ends_in_round c.args.most c.args.still c.args.simulation.now c.loop-done.simulation c.run_round.new.simulation c.loop-done.done c.loop-done.unchanged c.in-Err.fault c.loop-done-test.true c.if-unchanged-still.false c.loop-done.invariant.passed c.in-Err.ensures.round

pub returns-in_default-sight_of-clause-passes : goal.returns-in_default-sight_of-clause-passes
returns-in_default-sight_of-clause-passes g c =
    no_room_behind c.args.most c.args.still c.args.simulation.now c.loop-done.simulation c.run_round.new.simulation c.loop-done.done c.loop-done.unchanged c.loop-done-test.true c.if-unchanged-still.false c.loop-done.invariant.passed c.in-Ok-run_round.ensures.round (sym c.in_default-left_over.ensures)

pub loop-done-preserved : goal.loop-done-preserved
loop-done-preserved g c =
    let now : c.in-Ok-sight_of.now.items ≡ sight c.run_round.new.simulation = c.in-Ok-sight_of.ensures ∙ ap (flat_map slot_sight) c.slots-in-loop-done.ensures in
    record {
      passed =
          elim c.if-eq.branch [
            | then-eq w ↦
                subst (λ (n : ℕ). Passed c.args.still c.args.simulation.now c.run_round.new.simulation (c.loop-done.done + 1) n) (sym w.unchanged-is)
                (passed_same c.args.still c.args.simulation.now c.loop-done.simulation c.run_round.new.simulation c.loop-done.done c.loop-done.unchanged c.if-unchanged-still.false c.loop-done.invariant.passed c.in-Ok-run_round.ensures.round (sym c.in_default-left_over.ensures)
                (sym now ∙ are_same c.eq.result c.in-Ok-sight_of.now.items c.loop-done.seen.items c.eq.ensures w.if-eq.true ∙ c.loop-done.invariant.seen))
            | else-eq w ↦
                subst (λ (n : ℕ). Passed c.args.still c.args.simulation.now c.run_round.new.simulation (c.loop-done.done + 1) n) (sym w.unchanged-is)
                (passed_other c.args.still c.args.simulation.now c.loop-done.simulation c.run_round.new.simulation c.loop-done.done c.loop-done.unchanged c.if-unchanged-still.false c.loop-done.invariant.passed c.in-Ok-run_round.ensures.round (sym c.in_default-left_over.ensures)
                (λ same. are_not_same c.eq.result c.in-Ok-sight_of.now.items c.loop-done.seen.items c.eq.ensures w.if-eq.false (now ∙ same ∙ sym c.loop-done.invariant.seen)))
          ];
      seen = now;
      told = word_then_events _ _ _ _ _ _ _ _ c.loop-done.invariant.told c.begins_round.ensures c.run_round.ensures.told;
    }

pub returns-then-unchanged-still-2-clause-passes : goal.returns-then-unchanged-still-2-clause-passes
returns-then-unchanged-still-2-clause-passes g c =
    let below : c.loop-done.done ≤ c.args.most = c.loop-done.auto.done-end in
    let above : c.args.most ≤ c.loop-done.done = c.loop-done-test.false in
    let all : c.loop-done.done ≡ c.args.most = omega arith in
    subst (λ (n : ℕ). Passes c.args.most c.args.still c.args.simulation.now (Ok (outcome.Settled n)) c.loop-done.simulation) all
    (ends_settled c.args.most c.args.still c.args.simulation.now c.loop-done.simulation c.loop-done.done c.loop-done.unchanged below c.if-unchanged-still-2.true c.loop-done.invariant.passed)

pub returns-clause-passes : goal.returns-clause-passes
returns-clause-passes g c =
    let below : c.loop-done.done ≤ c.args.most = c.loop-done.auto.done-end in
    let above : c.args.most ≤ c.loop-done.done = c.loop-done-test.false in
    let all : c.loop-done.done ≡ c.args.most = omega arith in
    ends_unsettled c.args.most c.args.still c.args.simulation.now c.loop-done.simulation c.loop-done.unchanged c.if-unchanged-still-2.false
    (subst (λ (n : ℕ). Passed c.args.still c.args.simulation.now c.loop-done.simulation n c.loop-done.unchanged) all c.loop-done.invariant.passed)

pub returns-in_default-clause-told : goal.returns-in_default-clause-told
returns-in_default-clause-told g c = on_nowhere _ _ _ _ _ refl

pub returns-in-Err-clause-told : goal.returns-in-Err-clause-told
returns-in-Err-clause-told g c = word_then_events _ _ _ _ _ _ _ _ c.loop-done.invariant.told c.begins_round.ensures c.run_round.ensures.told

pub returns-in_default-sight_of-clause-told : goal.returns-in_default-sight_of-clause-told
returns-in_default-sight_of-clause-told g c = word_then_events _ _ _ _ _ _ _ _ c.loop-done.invariant.told c.begins_round.ensures c.run_round.ensures.told

pub returns-in-Some-clause-passes : goal.returns-in-Some-clause-passes
returns-in-Some-clause-passes g c =
    ends_in_storm c.args.most c.args.still c.args.simulation.now c.loop-done.simulation c.run_round.new.simulation c.loop-done.done c.loop-done.unchanged c.in-Some.from c.loop-done-test.true c.if-unchanged-still.false c.loop-done.invariant.passed c.in-Ok-run_round.ensures.round (sym c.in-Some.ensures)

pub returns-in-Some-clause-told : goal.returns-in-Some-clause-told
returns-in-Some-clause-told g c = word_then_events _ _ _ _ _ _ _ _ c.loop-done.invariant.told c.begins_round.ensures c.run_round.ensures.told
