-- The failures that are looked at from a router, and what is known before anything fails.
use Rattle.std.specs.Prelude.{◌≡◌, ◌↔◌, List, All, AllPairs, Contains, map}
use Rattle.ospf_base.specs.declared.ids.RouterId.{RouterId}
use Rattle.ospf_graph.specs.Advertisements.{Advertisement}
use Rattle.ospf_graph.specs.Routes.{IsTable}
use Rattle.ospf_whatif.specs.Outage.{IsAreaGraph, IsKeptRoot}
use Rattle.ospf_whatif.specs.Single.{IsFailureBefore}
use Rattle.ospf_whatif.specs.declared.failure.AreaFailure.{AreaFailure}
use Rattle.ospf_harm.specs.Carrier.{together}
use Rattle.ospf_harm.specs.Reports.{IsOtherFailure}
use Rattle.ospf_harm.specs.Together.{AreSingle, IsComputable}
use Rattle.ospf_harm.specs.declared.carrier.Carrier.{Carrier}
use Rattle.ospf_harm.specs.declared.cases.Before.{Before}
use Rattle.ospf_harm.specs.declared.cases.FailureCases.{FailureCases}

-- a router with its table and its paths
pub record IsTableBefore (adverts : List Advertisement) (b : Before) : Type 0 where
  pub table : IsTable adverts b.root b.table
  pub kept : IsKeptRoot adverts b.kept
  pub root_is : b.kept.root ≡ b.root

-- the graph of the area and the router's table are those before anything fails
pub record IsAreaBefore (adverts : List Advertisement) (cases : FailureCases) : Type 0 where
  pub graph : IsAreaGraph adverts cases.area
  pub before : IsTableBefore adverts cases.before

-- they are the failures of the area but that of the root, each once, in their order, with all that
-- happens together with it where the links are carried so; and what they change can be calculated
pub record AreCases (carrier : Carrier) (adverts : List Advertisement) (root : RouterId)
    (cases : FailureCases) : Type 0 where
  pub ready : IsAreaBefore adverts cases
  pub root_is : cases.before.root ≡ root
  pub single : List AreaFailure
  pub are_single : AreSingle adverts single
  pub whole : (failure : AreaFailure)
      → Contains (map (λ b. b.failure) cases.breakdowns.items) failure
      ↔ IsOtherFailure carrier adverts root failure
  pub rising : AllPairs IsFailureBefore (map (λ b. b.failure) cases.breakdowns.items)
  pub parts : All (λ b. b.parts.items ≡ together carrier single b.failure) cases.breakdowns.items
  pub computable : All (IsComputable adverts) cases.breakdowns.items
