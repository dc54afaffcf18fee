-- What a router that runs has, by what its type says.
use Rattle.std.proofs.Common.{◌≡◌, ℕ, Option, None, Some, subst}
use Rattle.std.proofs.lemmas.Option.{none-some, same_Some}
use Rattle.ospf_area.specs.State.{AreaValue}
use Rattle.ospf_router.specs.Routers.{IsKept, IsRouter}
use Rattle.ospf_router.specs.Routes.{RoutesValue}

-- its state can be stepped, and the router can answer to others for what it does
pub kept_of : (links : ℕ) (routes : RoutesValue) (area : Option AreaValue) (s : AreaValue) → IsRouter links routes area → area ≡ Some s → IsKept s
kept_of links routes None s is at = absurd (none-some s at)
kept_of links routes (Some t) s is at = subst IsKept (same_Some t s at) is.0.kept
