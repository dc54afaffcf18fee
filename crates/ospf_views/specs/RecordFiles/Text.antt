-- What is printed where a packet was not written to a capture.
use Rattle.std.specs.Prelude.{ℕ, List, codes}
use Rattle.ospf_views.specs.declared.records.fault.CaptureFault.{CaptureFault}
use Rattle.ospf_views.specs.declared.records.fault.CaptureFault.TheVariants.{TooLong, Memory}

-- the name of a fault
abbrev pub capture_fault_text : CaptureFault → List ℕ
capture_fault_text TooLong = codes "TooLong"
capture_fault_text Memory = codes "Memory"
