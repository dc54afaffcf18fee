use Rattle.std.proofs.Common.{◌++◌, ◌∷◌, [], arith, subst, sym}
use Rattle.std.specs.List.{AllZip}
use Rattle.ospf_drive.proofs.Joined.{all_gone, pairs_then, walked_on}
use Rattle.ospf_run.specs.Lookups.{IsFrom}
use Rattle.ospf_run.proofs.over.start_lookups.Goals as goal

pub loop-seat-preserved : goal.loop-seat-preserved
loop-seat-preserved g c = record {
  walked = walked_on c.args.seats.items c.loop-seat.yielded c.loop-seat.seat-iterator.rest.items c.next.new.self.rest.items c.in-Some.seat c.loop-seat.invariant.walked c.in-Some.ensures.steps.0;
  room = omega (arith, c.in-Ok.ensures.capacity, c.in-Ok.ensures.len, c.in-Some.ensures.steps.1, c.loop-seat.invariant.room);
  started = subst (λ ls. AllZip IsFrom (c.loop-seat.yielded ++ c.in-Some.seat ∷ []) ls) (sym c.in-Ok.ensures.items) (pairs_then IsFrom c.loop-seat.yielded c.loop-seat.router_seats.items c.in-Some.seat c.start_lookup-router_seat.result c.loop-seat.invariant.started c.start_lookup-router_seat.ensures);
}

pub returns : goal.returns
returns g c =
    all_gone IsFrom c.args.seats.items c.loop-seat.yielded c.loop-seat.seat-iterator.rest.items c.loop-seat.router_seats.items c.loop-seat.invariant.walked (omega (arith, c.in-None.ensures.steps.0)) c.loop-seat.invariant.started
