use Rattle.std.proofs.Common.{string_bytes, take}
use Rattle.ospf_table.specs.Output.{AreLookups}
use Rattle.ospf_table.proofs.output.lookups_text.Given as goal

-- the lines of the addresses so far
abbrev pub invariant-loop-address : goal.invariant-loop-address
invariant-loop-address l = AreLookups l.table (take l.address-index l.addresses) (string_bytes l.text)
