use Rattle.ospf_drive.specs.Moments.{at}
use Rattle.ospf_drive.specs.Drives.{DriverGoesOn}
use Rattle.ospf_drive.proofs.driver.take_turns.Given as goal

-- the driver went on from its call to now
abbrev pub invariant-loop : goal.invariant-loop
invariant-loop g l =
    (goal.iterator-loop g).can_next l.iterator' × (goal.iterator-loop g).is_finite l.iterator'
    × DriverGoesOn g.M.Machine.rules (at (g.M.Machine.value l.fn.machine) (g.W.Wire.traffic l.fn.wire) (g.W.Wire.failed l.fn.wire) l.fn.writer) (at (g.M.Machine.value l.machine) (g.W.Wire.traffic l.wire) (g.W.Wire.failed l.wire) l.writer) l.told
