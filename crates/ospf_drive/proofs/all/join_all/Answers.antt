use Rattle.std.proofs.Common.{◌++◌, ◌∷◌, [], arith, subst, sym}
use Rattle.std.specs.List.{AllZip}
use Rattle.ospf_drive.proofs.Joined.{all_gone, pairs_then, walked_on}
use Rattle.ospf_drive.specs.Driven.{IsThreadJoined}
use Rattle.ospf_drive.proofs.all.join_all.Goals as goal

pub loop-running-preserved : goal.loop-running-preserved
loop-running-preserved g c = record {
  walked = walked_on c.args.threads.items c.loop-running.yielded c.loop-running.running-iterator.rest.items c.next.new.self.rest.items c.in-Some.running c.loop-running.invariant.walked c.in-Some.ensures.steps.0;
  room = omega (arith, c.in-Ok.ensures.capacity, c.in-Ok.ensures.len, c.in-Some.ensures.steps.1, c.loop-running.invariant.room);
  joined = subst (λ rs. AllZip (IsThreadJoined g.M.Machine.rules) (c.loop-running.yielded ++ c.in-Some.running ∷ []) rs) (sym c.in-Ok.ensures.items) (pairs_then (IsThreadJoined g.M.Machine.rules) c.loop-running.yielded c.loop-running.results.items c.in-Some.running c.join.result c.loop-running.invariant.joined c.join.ensures);
}

pub returns : goal.returns
returns g c =
    all_gone (IsThreadJoined g.M.Machine.rules) c.args.threads.items c.loop-running.yielded c.loop-running.running-iterator.rest.items c.loop-running.results.items c.loop-running.invariant.walked (omega (arith, c.in-None.ensures.steps.0)) c.loop-running.invariant.joined
