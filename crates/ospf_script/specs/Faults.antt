-- What is printed of a line that was not read.
use Rattle.std.specs.Prelude.{List, ℕ, codes}
use Rattle.ospf_script.specs.declared.fault.CommandFault.{CommandFault}
use Rattle.ospf_script.specs.declared.fault.CommandFault.TheVariants.{NotACommand, Memory}

-- why a line is no command
abbrev pub command_fault_text : CommandFault → List ℕ
command_fault_text NotACommand = codes "not a command"
command_fault_text Memory = codes "Memory"
