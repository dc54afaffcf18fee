use Rattle.ospf_drive.specs.Driven.{DrivesToEnd}
use Rattle.ospf_run.proofs.Ends.{seat_began, seat_fib, to_end}
use Rattle.ospf_run.proofs.finish.finish.Goals as goal

pub look_if_asked-requires-clause-fib : goal.look_if_asked-requires-clause-fib
look_if_asked-requires-clause-fib g c =
    seat_fib c.requires.0 c.args.driven c.args.router_seat c.in-Ok.driven c.in-Some.seat c.in-Ok.is c.requires.1 (c.in-Some.ensures c.requires.0.known c.requires.1.looks)

pub look_if_asked-requires-clause-began : goal.look_if_asked-requires-clause-began
look_if_asked-requires-clause-began g c =
    seat_began c.requires.0 c.args.driven c.args.router_seat c.in-Some.seat c.requires.1 (c.in-Some.ensures c.requires.0.known c.requires.1.looks)

pub returns-in-Ok-look_if_asked-clause-came : goal.returns-in-Ok-look_if_asked-clause-came
returns-in-Ok-look_if_asked-clause-came g c = λ a ran.
    let drives : DrivesToEnd g.M.Machine.rules a c.in-Ok.driven.0 c.in-Ok.driven.1 c.in-Ok.driven.2 = to_end a c.args.driven c.args.router_seat c.in-Ok.driven c.in-Ok.is ran in
    record {
      known = c.in-Ok.driven.1;
      told = c.in-Ok.driven.2;
      drives = drives;
      ticked = λ handed span counted. c.all_ticks_are_taken.ensures a _ c.in-Ok.driven.2 handed span drives.drives counted;
      looked = c.in-Ok-look_if_asked.ensures.looked;
    }
