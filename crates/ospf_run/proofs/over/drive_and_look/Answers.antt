use Rattle.ospf_drive.specs.Moments.{at}
use Rattle.ospf_run.proofs.Lists.{routers_ran_of}
use Rattle.ospf_run.proofs.over.drive_and_look.Goals as goal

pub returns : goal.returns
returns g c = λ terms configs begins counted seats.
    routers_ran_of g.M.Machine.rules (λ job. at (g.M.Machine.value job.0) (g.W.Wire.traffic job.1) (g.W.Wire.failed job.1) job.2) terms configs c.args.jobs.items c.in_ok-driven.driven.items c.args.seats.items
    c.start_lookups.new.router_seats.items begins counted c.in_ok-driven.ensures seats c.start_lookups.ensures
