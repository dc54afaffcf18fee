use Rattle.std.proofs.Common.{take}
use Rattle.std.specs.List.{AllZip}
use Rattle.toml.specs.View.{items_view}
use Rattle.ospf_config.specs.Interfaces.{IsInterfaceOf}
use Rattle.ospf_config.specs.Tables.{active_among, tables_among}
use Rattle.ospf_config.proofs.read.interfaces_of.Given as goal

abbrev pub invariant-loop-value : goal.invariant-loop-value
invariant-loop-value l = AllZip (IsInterfaceOf l.rfc3021) (active_among (tables_among (items_view (take l.value-index l.values)))) l.interfaces.items
