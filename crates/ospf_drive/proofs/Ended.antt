-- A driver that ended before the end of what its wire delivers.
use Rattle.std.proofs.Common.{Err}
use Rattle.ospf_drive.specs.Driven.{IsDriven}
use Rattle.ospf_drive.specs.Drives.{Drives}
use Rattle.ospf_drive.specs.Machines.{Rules}
use Rattle.ospf_drive.specs.Moments.{Moment}
use Rattle.ospf_drive.specs.declared.fault.DriveFault.{DriveFault}
use Rattle.ospf_drive.specs.declared.fault.DriveFault.TheVariants as fault

pub driven_into : (rules : Rules) (a b : Moment) (f : DriveFault) → Drives rules a b (Err f) → IsDriven rules a (Err f)
driven_into rules a b fault.Recv drives = record { last = b; drives = drives }
driven_into rules a b fault.Send drives = record { last = b; drives = drives }
driven_into rules a b fault.Stopped drives = record { last = b; drives = drives }
driven_into rules a b fault.Publish drives = record { last = b; drives = drives }
driven_into rules a b fault.Thread drives = tt
