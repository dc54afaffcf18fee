-- What fails together, by what carries the links, and what that changes in a router's table.
use Rattle.std.specs.Prelude.{◌<◌, List, AllPairs, length}
use Rattle.ospf_base.specs.declared.ids.RouterId.{RouterId}
use Rattle.ospf_graph.specs.Advertisements.{Advertisement}
use Rattle.ospf_graph.specs.declared.route.Route.{Route}
use Rattle.ospf_harm.specs.Carrier.{together}
use Rattle.ospf_whatif.specs.Effect.{IsEffect, IsEffectIn}
use Rattle.ospf_whatif.specs.Failure.{HasLarge, without_all}
use Rattle.ospf_whatif.specs.Single.{AreFailures, IsFailureBefore}
use Rattle.ospf_harm.specs.declared.carrier.Breakdown.{Breakdown}
use Rattle.ospf_harm.specs.declared.carrier.Carrier.{Carrier}
use Rattle.ospf_harm.specs.declared.carrier.Carrier.TheVariants.{Direct, Process, Switch}
use Rattle.ospf_whatif.specs.declared.effect.RouteChange.{RouteChange}
use Rattle.ospf_whatif.specs.declared.failure.AreaFailure.{AreaFailure}

-- all that may fail in the area, each once, in order
pub record AreSingle (adverts : List Advertisement) (single : List AreaFailure) : Type 0 where
  pub all : AreFailures adverts single
  pub in_order : AllPairs IsFailureBefore single

-- what happens to the routes of a table when something fails, where `single` is all that may fail
-- in the area. On direct cables all that fails with it is gone too. Behind switches, and where only
-- the process of a router dies, it fails alone
abbrev pub IsEffectBy
    : Carrier → List AreaFailure → List Advertisement → RouterId → AreaFailure → List Route
    → List RouteChange → Type 0
IsEffectBy Direct single adverts root failure before effect =
    IsEffectIn (without_all (together Direct single failure) adverts) root before effect
IsEffectBy Switch single adverts root failure before effect =
    IsEffect adverts root failure before effect
IsEffectBy Process single adverts root failure before effect =
    IsEffect adverts root failure before effect

-- ---- on the way

-- the effect can be calculated: this is one failure alone, or no router-LSA is too large to be
-- rebuilt
abbrev pub IsComputable : List Advertisement → Breakdown → Type 0
IsComputable adverts b = 1 < length b.parts.items → HasLarge adverts → ⊥
