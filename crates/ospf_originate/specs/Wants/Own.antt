-- Own LSAs.
use Rattle.ospf_originate.specs.declared.contents.wants.OwnLsa.{OwnLsa}
use Rattle.ospf_originate.specs.declared.contents.wants.OwnLsa.TheVariants as got
use Rattle.ospf_originate.specs.Wants.Wanted.{WantedValue}

-- a wanted LSA as it is held
abbrev pub wanted_value : OwnLsa → WantedValue
wanted_value (got.Router router links) = WantedValue.RouterLsa router links.items
wanted_value (got.Network id router mask routers) =
    WantedValue.NetworkLsa id router mask routers.items
