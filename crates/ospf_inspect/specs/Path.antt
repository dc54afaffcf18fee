-- The way from a router to an address over a listing, by the tables that its routers make of it.
use Rattle.std.specs.Prelude.{◌≡◌, ◌<◌, ◌+◌, ◌%◌, ℕ, List, [], ◌∷◌, ◌++◌, Contains, Option, None, Some, suc, codes, decimal, length, slice_get}
use Rattle.ospf_base.specs.Prefixes.{Holds}
use Rattle.ospf_base.specs.Text.{number_text, prefix_text}
use Rattle.ospf_base.specs.declared.ids.RouterId.{RouterId}
use Rattle.ospf_graph.specs.Advertisements.{Advertisement}
use Rattle.ospf_graph.specs.Routes.{IsTable}
use Rattle.ospf_graph.specs.Text.{hop_text}
use Rattle.ospf_graph.specs.Walk.{IsBest, IsLinkCost, IsNext}
use Rattle.ospf_graph.specs.declared.hop.NextHop.{NextHop}
use Rattle.ospf_graph.specs.declared.hop.NextHop.TheVariants.{Attached}
use Rattle.ospf_graph.specs.declared.route.Route.{Route}
use Rattle.ospf_base.specs.declared.prefix.Prefix.{Prefix}
use Rattle.ospf_inspect.specs.declared.path.PathLeg.{PathLeg}
use Rattle.ospf_inspect.specs.declared.path.PathState.{PathState}

-- ---- lines

-- a router, the hop that it takes, what that costs, and which of a route's
-- hops it is, from 0, of how many
abbrev pub leg_of : RouterId → ℕ → Route → NextHop → ℕ → PathLeg
leg_of at choice route hop cost =
    record {
      at = at;
      hop = hop;
      cost = cost;
      place = choice % length route.hops;
      count = length route.hops;
    }

-- a leg of the way: the router, the hop that it takes, what that costs, and
-- which of the route's hops it is
abbrev pub leg_text : PathLeg → List ℕ
leg_text leg =
    number_text leg.at.0 ++ codes " " ++ hop_text leg.hop ++ codes " cost " ++ decimal leg.cost
    ++ codes " "
    ++ (codes "hop " ++ decimal leg.place ++ codes " of " ++ decimal leg.count)

-- the line of a leg
abbrev pub leg_line : PathLeg → List ℕ
leg_line leg = leg_text leg ++ codes "\n"

-- the prefix that was reached, and what all of it cost
abbrev pub arrived_text : Prefix → ℕ → List ℕ
arrived_text prefix paid = prefix_text prefix ++ codes " cost " ++ decimal paid ++ codes " arrived"

-- the line of a way that ends on the prefix at this cost
abbrev pub arrived_line : Prefix → ℕ → List ℕ
arrived_line prefix paid = arrived_text prefix paid ++ codes "\n"

-- the line of a way that ends at a router without a route
abbrev pub no_route_line : RouterId → List ℕ
no_route_line at = number_text at.0 ++ codes " no route\n"

-- the line of a path that reaches a router a second time
abbrev pub turns_line : RouterId → List ℕ
turns_line at = number_text at.0 ++ codes " turns\n"

-- ---- the way

-- the first choice, which is 0 where there is none
abbrev pub first_choice : List ℕ → ℕ
first_choice [] = 0
first_choice (choice ∷ _) = choice

-- the choices of the legs after the first
abbrev pub later_choices : List ℕ → List ℕ
later_choices [] = []
later_choices (_ ∷ choices) = choices

-- the router's best route for the address, by its table, and the hop of it that
-- the choice takes (section 11.1)
pub record TakesHop (adverts : List Advertisement) (address choice : ℕ) (at : RouterId)
    (route : Route) (hop : NextHop) : Type 0 where
  pub table : List Route
  pub is_table : IsTable adverts at table
  pub best : IsBest table address route
  pub chosen : slice_get route.hops (choice % length route.hops) ≡ Some hop

-- the router's table has no route for the address
pub record HasNoRouteFor (adverts : List Advertisement) (address : ℕ) (at : RouterId) : Type 0 where
  pub table : List Route
  pub is_table : IsTable adverts at table
  pub none : (route : Route) → Contains table route → Holds route.prefix address → ⊥

-- the text about the path from a router, after this cost so far and with this many more routers
-- allowed: it ends there without a route; it has arrived; it continues at the router that the hop
-- names, over a link of least cost; or no more routers are allowed, and it turns in a circle
pub data SaysWay (adverts : List Advertisement) (address : ℕ)
    : ℕ → List ℕ → RouterId → ℕ → List ℕ → Type 0 where
  strays : {most : ℕ} {choices : List ℕ} {at : RouterId} {paid : ℕ}
      → HasNoRouteFor adverts address at
      → SaysWay adverts address most choices at paid (no_route_line at)
  arrives : {most : ℕ} {choices : List ℕ} {at : RouterId} {paid : ℕ} (route : Route)
      → TakesHop adverts address (first_choice choices) at route Attached
      → SaysWay adverts address most choices at paid
      (leg_line (leg_of at (first_choice choices) route Attached route.cost)
      ++ arrived_line route.prefix (paid + route.cost))
  goes_on : {most : ℕ} {choices : List ℕ} {at : RouterId} {paid : ℕ} {text : List ℕ} (route : Route)
      (hop : NextHop) (next : RouterId) (link : ℕ)
      → TakesHop adverts address (first_choice choices) at route hop → IsNext hop next
      → IsLinkCost adverts at hop link
      → SaysWay adverts address most (later_choices choices) next (paid + link) text
      → SaysWay adverts address (suc most) choices at paid
      (leg_line (leg_of at (first_choice choices) route hop link) ++ text)
  turns : {choices : List ℕ} {at : RouterId} {paid : ℕ} (route : Route) (hop : NextHop)
      (next : RouterId) → TakesHop adverts address (first_choice choices) at route hop
      → IsNext hop next → SaysWay adverts address 0 choices at paid (turns_line at)

-- what is said at one router of a way: all that is said from there on, where the way ends; else
-- what stands before all that is said from the next router on, where fewer may be met
abbrev pub SaysLeg : List Advertisement → ℕ → PathState → List ℕ → Option PathState → Type 0
SaysLeg adverts address way said None =
    SaysWay adverts address way.most way.choices.now way.at way.paid said
SaysLeg adverts address way said (Some next) =
    (suc next.most ≡ way.most) × (next.paid < way.paid + 65536)
    × ((rest : List ℕ)
    → SaysWay adverts address next.most next.choices.now next.at next.paid rest
    → SaysWay adverts address way.most way.choices.now way.at way.paid (said ++ rest))

-- the text about the path from a router at its start: it may not meet more routers than LSAs are
-- listed
abbrev pub SaysPath : List Advertisement → RouterId → ℕ → List ℕ → ℕ → List ℕ → Type 0
SaysPath adverts from address choices most text = SaysWay adverts address most choices from 0 text
