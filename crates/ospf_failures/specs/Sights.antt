-- What a failure changes at one of the routers of an area.
use Rattle.std.specs.Prelude.{List}
use Rattle.ospf_base.specs.declared.ids.RouterId.{RouterId}
use Rattle.ospf_whatif.specs.declared.effect.RouteChange.{RouteChange}

-- a router, and what a failure changes in its table
abbrev pub SightValue : Type 0
SightValue = RouterId × List RouteChange
