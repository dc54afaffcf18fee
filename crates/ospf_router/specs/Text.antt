-- What is printed of a router that does not start, or no longer takes a step.
use Rattle.std.specs.Prelude.{ℕ, List, codes}
use Rattle.ospf_router.specs.declared.fault.StartFault.{StartFault}
use Rattle.ospf_router.specs.declared.fault.StartFault.TheVariants as fault

-- the number and the name of a fault
abbrev pub start_fault_text : StartFault → List ℕ
start_fault_text fault.Floor = codes "S2 Floor"
start_fault_text fault.Memory = codes "S3 Memory"

-- the same of a router that has stopped
abbrev pub stopped_text : List ℕ
stopped_text = codes "S1 Stopped"
