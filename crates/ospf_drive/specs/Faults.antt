-- Why a driver ended.
use Rattle.std.specs.Prelude.{ℕ, List, codes}
use Rattle.ospf_drive.specs.declared.fault.DriveFault.{DriveFault}
use Rattle.ospf_drive.specs.declared.fault.DriveFault.TheVariants as fault

-- how a fault is printed
abbrev pub drive_fault_text : DriveFault → List ℕ
drive_fault_text fault.Recv = codes "U1 Recv"
drive_fault_text fault.Send = codes "U2 Send"
drive_fault_text fault.Stopped = codes "U3 Stopped"
drive_fault_text fault.Publish = codes "U4 Publish"
drive_fault_text fault.Thread = codes "U5 Thread"
