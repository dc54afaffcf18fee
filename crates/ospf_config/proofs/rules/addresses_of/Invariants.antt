use Rattle.std.proofs.Common.{Ok, take}
use Rattle.std.specs.List.{AllZip}
use Rattle.toml.specs.View.{items_view}
use Rattle.ospf_config.specs.Keys.{ReadsInterfaceAddress}
use Rattle.ospf_config.specs.Tables.{tables_among}
use Rattle.ospf_config.proofs.rules.addresses_of.Given as goal

abbrev pub invariant-loop-value : goal.invariant-loop-value
invariant-loop-value l = AllZip (λ t a. ReadsInterfaceAddress l.rfc3021 t (Ok a)) (tables_among (items_view (take l.value-index l.values))) l.addresses.items
