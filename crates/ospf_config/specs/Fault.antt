-- The order of faults: the one with the least number is reported.
use Rattle.std.specs.Prelude.{ℕ, List, codes, nat_lt, if◌then◌else◌, Option, Some, None, MatchOption, Result, Err}
use Rattle.ospf_base.specs.Faults as faults
use Rattle.ospf_config.specs.declared.fault.ConfigFault.{ConfigFault}
use Rattle.ospf_config.specs.declared.fault.ConfigFault.TheVariants as fault

-- the number of a fault, in the order in which faults are looked for
abbrev pub config_fault_number : ConfigFault → ℕ
config_fault_number fault.NotToml = 1
config_fault_number fault.Missing = 2
config_fault_number fault.Type = 3
config_fault_number fault.Range = 4
config_fault_number fault.ZeroCost = 5
config_fault_number fault.SamePrefix = 6
config_fault_number fault.DeadNotOverHello = 7
config_fault_number fault.Unknown = 8
config_fault_number fault.Memory = 9

-- what is printed of a fault
abbrev pub config_fault_text : ConfigFault → List ℕ
config_fault_text fault.NotToml = codes "C1 NotToml"
config_fault_text fault.Missing = codes "C2 Missing"
config_fault_text fault.Type = codes "C3 Type"
config_fault_text fault.Range = codes "C4 Range"
config_fault_text fault.ZeroCost = codes "C5 ZeroCost"
config_fault_text fault.SamePrefix = codes "C6 SamePrefix"
config_fault_text fault.DeadNotOverHello = codes "C7 DeadNotOverHello"
config_fault_text fault.Unknown = codes "C8 Unknown"
config_fault_text fault.Memory = codes "C9 Memory"

-- the fault of the lesser number
abbrev pub earlier_of : Option ConfigFault → Option ConfigFault → Option ConfigFault
earlier_of (Some f) (Some g) =
    if nat_lt (config_fault_number g) (config_fault_number f) then Some g else Some f
earlier_of (Some f) None = Some f
earlier_of None b = b

-- this fault holds, and none of a lower number
abbrev pub IsLeastFault : (ConfigFault → Type 0) → ConfigFault → Type 0
IsLeastFault Holds f = faults.IsFirstHeld config_fault_number Holds f

-- the least fault that holds, or none where none does
abbrev pub IsLeastIfAny : (ConfigFault → Type 0) → Option ConfigFault → Type 0
IsLeastIfAny Holds found =
    MatchOption found ((f : ConfigFault) → Holds f → ⊥) (λ f. IsLeastFault Holds f)

-- the fault that is read, or none where none is
abbrev pub IsFaultIfAny : {T : Type 0} → (Result T ConfigFault → Type 0) → Option ConfigFault
    → Type 0
IsFaultIfAny Reads found =
    MatchOption found ((f : ConfigFault) → Reads (Err f) → ⊥) (λ f. Reads (Err f))
