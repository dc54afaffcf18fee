use Rattle.std.proofs.Common.{take}
use Rattle.std.specs.List.{AllZip}
use Rattle.toml.specs.View.{items_view}
use Rattle.ospf_config.specs.Interfaces.{IsHostOf}
use Rattle.ospf_config.specs.Tables.{tables_among}
use Rattle.ospf_config.proofs.hosts.hosts_of.Given as goal

abbrev pub invariant-loop-value : goal.invariant-loop-value
invariant-loop-value l = AllZip IsHostOf (tables_among (items_view (take l.value-index l.values))) l.hosts.items
