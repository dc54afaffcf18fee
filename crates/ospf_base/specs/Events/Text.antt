-- What is printed of a fault of a world.
use Rattle.std.specs.Prelude.{ℕ, List, codes}
use Rattle.ospf_base.specs.declared.event.event.WorldFault.{WorldFault}
use Rattle.ospf_base.specs.declared.event.event.WorldFault.TheVariants as fault

-- the number and the name of a fault
abbrev pub world_fault_text : WorldFault → List ℕ
world_fault_text fault.NoRouter = codes "W1 NoRouter"
world_fault_text fault.NoDatagram = codes "W2 NoDatagram"
world_fault_text fault.NoLink = codes "W3 NoLink"
world_fault_text fault.Running = codes "W4 Running"
world_fault_text fault.NotRunning = codes "W5 NotRunning"
world_fault_text (fault.Memory stopped) = codes "W6 Memory"
world_fault_text fault.SameRouter = codes "W7 SameRouter"
world_fault_text fault.Floor = codes "W8 Floor"
