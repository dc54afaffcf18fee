-- What a failure changes in a routing table.
use Rattle.std.specs.Prelude.{◌≡◌, ◌<◌, ◌↔◌, List, All, AllPairs, Contains}
use Rattle.ospf_base.specs.declared.ids.RouterId.{RouterId}
use Rattle.ospf_graph.specs.Advertisements.{Advertisement}
use Rattle.ospf_graph.specs.Routes.{IsRouteBefore, IsTable}
use Rattle.ospf_graph.specs.declared.route.Route.{Route}
use Rattle.ospf_spf.specs.Changes.{Reaches}
use Rattle.ospf_whatif.specs.Failure.{without}
use Rattle.ospf_whatif.specs.Told.{IsAdvertised}
use Rattle.ospf_whatif.specs.declared.effect.Loss.{Loss}
use Rattle.ospf_whatif.specs.declared.effect.Loss.TheVariants.{Cut, Dearer, Gone, Moved}
use Rattle.ospf_whatif.specs.declared.effect.RouteChange.{RouteChange}
use Rattle.ospf_whatif.specs.declared.failure.AreaFailure.{AreaFailure}

-- what happens to a route if the area is left as `left`, and the table as `after`: there is no
-- route to its prefix, which is no longer advertised, or still is; or there is one that costs more,
-- or the same over other next hops
abbrev pub IsLoss : List Advertisement → List Route → Route → Loss → Type 0
IsLoss left after route Gone =
    (Reaches after route.prefix → ⊥) × (IsAdvertised left route.prefix → ⊥)
IsLoss left after route Cut = (Reaches after route.prefix → ⊥) × IsAdvertised left route.prefix
IsLoss left after route (Dearer new) =
    Contains after new × (new.prefix ≡ route.prefix) × (route.cost < new.cost)
IsLoss left after route (Moved new) =
    Contains after new × (new.prefix ≡ route.prefix) × (new.cost ≡ route.cost)
    × (new.hops ≡ route.hops → ⊥)

-- the order of changes: by the prefixes of their routes
abbrev pub IsRouteChangeBefore : RouteChange → RouteChange → Type 0
IsRouteChangeBefore c d = IsRouteBefore c.before d.before

-- what becomes of the routes of a table where the area is left as `left`: in order, so each once,
-- exactly those that the table of what is left does not have
pub record IsEffectIn (left : List Advertisement) (root : RouterId) (before : List Route)
    (effect : List RouteChange) : Type 0 where
  pub after : List Route
  pub is_after : IsTable left root after
  pub in_order : AllPairs IsRouteChangeBefore effect
  pub listed : (route : Route)
      → ((loss : Loss) × Contains effect (record { before = route; loss = loss }))
      ↔ (Contains before route × (Contains after route → ⊥))
  pub losses : All (λ c. IsLoss left after c.before c.loss) effect

-- what becomes of them where something fails
abbrev pub IsEffect : List Advertisement → RouterId → AreaFailure → List Route → List RouteChange
    → Type 0
IsEffect adverts root failure before effect =
    IsEffectIn (without failure adverts) root before effect
