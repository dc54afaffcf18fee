use Rattle.std.proofs.Common.{◌<◌, arith, drop, length, length-drop, subst, sym, Result}
use Rattle.ospf_run.proofs.Finished.{has_run, is_any, outcome_of}
use Rattle.ospf_run.proofs.Lists.{as_long, outcomes_more, taken_off}
use Rattle.ospf_drive.specs.declared.fault.DriveFault.{DriveFault}
use Rattle.ospf_files.proofs.Cut.{for_memory}
use Rattle.ospf_run.specs.Cut.{FailsPlan}
use Rattle.ospf_run.specs.Runs.{Came, RoutersRan, Terms}
use Rattle.ospf_run.specs.declared.outcome.RouterShown.{RouterShown}
use Rattle.ospf_run.specs.declared.outcome.Outcome.{Outcome}
use Rattle.ospf_run.proofs.finish.finish_all.Goals as goal

pub returns-in_err-outcomes-clause-early : goal.returns-in_err-outcomes-clause-early
returns-in_err-outcomes-clause-early g c = for_memory c.from_residual.result (FailsPlan c.args.lookup c.args.files.now) c.from_residual.ensures.1 tt

pub returns-in_default-finish-clause-early : goal.returns-in_default-finish-clause-early
returns-in_default-finish-clause-early g c = (c.in_default-finish.ensures.asked, is_any c.args.files.now c.loop-place.place (omega (arith, c.requires.files, c.loop-place-test.true)))

pub returns-in_err-put-clause-early : goal.returns-in_err-put-clause-early
returns-in_err-put-clause-early g c = for_memory c.from_residual-in_err-put.result (FailsPlan c.args.lookup c.args.files.now) c.from_residual-in_err-put.ensures.1 tt

pub unreachable-requires : goal.unreachable-requires
unreachable-requires g c =
    let some = c.loop-place.invariant.some in
    let long = as_long g.M.Machine.rules some.0 (drop c.loop-place.place c.args.configs.now) c.loop-place.driven.rest.items c.loop-place.seats.rest.items some.1 in
    omega (arith, long.0, length-drop c.loop-place.place c.args.configs.now, c.loop-place-test.true, c.in_default.ensures.cases.0)

pub unreachable-requires-in_default-next : goal.unreachable-requires-in_default-next
unreachable-requires-in_default-next g c =
    let some = c.loop-place.invariant.some in
    let long = as_long g.M.Machine.rules some.0 (drop c.loop-place.place c.args.configs.now) c.loop-place.driven.rest.items c.loop-place.seats.rest.items some.1 in
    omega (arith, long.1, length-drop c.loop-place.place c.args.configs.now, c.loop-place-test.true, c.in_default-next.ensures.cases.0)

pub finish-requires : goal.finish-requires
finish-requires g c =
    let some = c.loop-place.invariant.some in
    let first = (taken_off some.0 c.args.configs.now c.loop-place.place c.index-configs-place.result c.loop-place.driven.rest.items c.next.new.self.rest.items c.in-Some.ended
    c.loop-place.seats.rest.items c.next-in-loop-place.new.self.rest.items c.in-Some-next.router_seat c.loop-place-test.true c.index-configs-place.is c.in-Some.ensures.cases.0 c.in-Some-next.ensures.cases.0 some.1).0 in
    (first.a, has_run first)

pub loop-place-preserved : goal.loop-place-preserved
loop-place-preserved g c =
    let within : c.loop-place.place < length c.args.files.now = omega (arith, c.requires.files, c.loop-place-test.true) in
    let outcome : Outcome = c.outcome_of-outcome.result in
    let off = λ (terms : Terms) (left : RoutersRan g.M.Machine.rules terms (drop c.loop-place.place c.args.configs.now) c.loop-place.driven.rest.items c.loop-place.seats.rest.items).
    taken_off terms c.args.configs.now c.loop-place.place c.index-configs-place.result c.loop-place.driven.rest.items c.next.new.self.rest.items c.in-Some.ended
    c.loop-place.seats.rest.items c.next-in-loop-place.new.self.rest.items c.in-Some-next.router_seat c.loop-place-test.true c.index-configs-place.is c.in-Some.ensures.cases.0 c.in-Some-next.ensures.cases.0 left in
    record {
      some = (let left = c.loop-place.invariant.some in (left.0, (off left.0 left.1).1));
      so_far = λ terms all_ran.
          let before = c.loop-place.invariant.so_far terms all_ran in
          let h = off terms before.0 in (
            h.1,
            outcomes_more c.args.lookup terms c.args.files.now c.args.configs.now c.loop-place.outcomes.items c.put.new.list.items c.loop-place.place c.index-files-place.result c.index-configs-place.result
                outcome within c.index-files-place.is c.loop-place-test.true c.index-configs-place.is before.1
                (outcome_of c.args.lookup c.index-files-place.result h.0 outcome c.outcome_of-outcome.ensures.file c.outcome_of-outcome.ensures.router
                (λ a has. subst (λ (came : Result RouterShown DriveFault). Came g.M.Machine.rules c.args.lookup a came) (sym c.outcome_of-outcome.ensures.came) (c.in-Ok.ensures.came a has))) c.in_ok-put.ensures.ok,
          );
    }
