use Rattle.std.proofs.Common.{List, take}
use Rattle.ospf_graph.specs.Advertisements.{Advertisement}
use Rattle.ospf_whatif.specs.Outage.{IsAreaGraph, IsOutage, IsToldBy, left_of_area}
use Rattle.ospf_whatif.proofs.root.is_told.Given as goal

abbrev pub invariant-loop-end : goal.invariant-loop-end
invariant-loop-end l = (adverts : List Advertisement) → IsAreaGraph adverts l.area → IsOutage adverts l.outage → IsToldBy (left_of_area adverts l.outage) (take l.end-index l.ends) l.prefix → ⊥
