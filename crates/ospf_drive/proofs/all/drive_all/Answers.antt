use Rattle.std.proofs.Common.{arith, length, ◌≡◌}
use Rattle.ospf_drive.proofs.Joined.{all_joined, as_many}
use Rattle.ospf_drive.specs.Moments.{at}
use Rattle.ospf_drive.proofs.all.drive_all.Goals as goal

pub join_all-requires-clause-room : goal.join_all-requires-clause-room
join_all-requires-clause-room g c κs within =
    let same : length c.args.jobs.items ≡ length c.start_all.new.threads.items = as_many _ c.args.jobs.items c.start_all.new.threads.items c.start_all.ensures in
    omega (arith, same, c.in_ok-results.ensures.capacity, c.len.ensures)

pub returns : goal.returns
returns g c =
    all_joined g.M.Machine.rules (λ job. at (g.M.Machine.value job.0) (g.W.Wire.traffic job.1) (g.W.Wire.failed job.1) job.2) c.args.jobs.items c.start_all.new.threads.items c.join_all.new.results.items c.start_all.ensures c.join_all.ensures
