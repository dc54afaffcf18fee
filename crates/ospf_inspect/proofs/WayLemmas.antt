-- Ways arrive, at the cost of the first route.
use Rattle.std.proofs.Common.{◌≡◌, ◌+◌, ◌%◌, ◌<◌, ◌≤◌, ℕ, List, [], ◌∷◌, ◌++◌, length, length-append, append_assoc, refl, sym, ap, ◌∙◌, subst, inl, inr, arith, ◌⊎◌}
use Rattle.std.specs.List.{Contains}
use Rattle.std.specs.Prelude.{bit_and}
use Rattle.std.proofs.lemmas.List.{length-map}
use Rattle.std.proofs.lemmas.List.Elements.{All-contains}
use Rattle.ospf_base.specs.Masks.{mask_of}
use Rattle.ospf_base.specs.declared.ids.RouterId.{RouterId}
use Rattle.ospf_base.specs.declared.prefix.Prefix.{Prefix}
use Rattle.ospf_base.proofs.PrefixLaws.{prefix_same}
use Rattle.ospf_graph.specs.Advertisements.{Advertisement, IsListed, network_lsa, router_lsa}
use Rattle.ospf_graph.specs.EdgeLists.Listed.{advertisement_of, advertisements_of}
use Rattle.ospf_graph.proofs.EdgeLists.FitLemmas.{positive}
use Rattle.ospf_graph.specs.Routes.{IsRoute, IsTable}
use Rattle.ospf_graph.specs.Walk.{HasPositiveMetrics, HaveTables, IsBest, IsOnWay, IsSoundWalk, IsWalk, IsWalkStep, listed_routers}
use Rattle.ospf_graph.specs.declared.hop.NextHop.TheVariants.{Attached}
use Rattle.ospf_graph.specs.declared.route.Route.{Route}
use Rattle.ospf_graph.proofs.TableLemmas.{table_unique}
use Rattle.ospf_graph.proofs.WalkLaw.{one_cost, walk_law}
use Rattle.ospf_inspect.specs.Laws.{EndsOnRoute, WaysArrive}
use Rattle.ospf_inspect.proofs.Ways.{contains_at}
use Rattle.ospf_inspect.specs.Path.{HasNoRouteFor, SaysPath, SaysWay, arrived_line, first_choice, later_choices, leg_line, leg_of, no_route_line, strays, arrives, goes_on, turns}

-- the best routes of a table have one prefix
best_prefix : (routes : List Route) (address : ℕ) (p q : Route) → IsBest routes address p → IsBest routes address q → p.prefix ≡ q.prefix
best_prefix routes address p q bp bq =
    let up : q.prefix.length ≤ p.prefix.length = bp.longest q bq.listed bq.holds in
    let down : p.prefix.length ≤ q.prefix.length = bq.longest p bp.listed bp.holds in
    let len : p.prefix.length ≡ q.prefix.length = omega arith in
    let masked : bit_and address (mask_of p.prefix.length) ≡ bit_and address (mask_of q.prefix.length) = ap (λ n. bit_and address (mask_of n)) len in
    prefix_same p.prefix q.prefix (sym bp.holds ∙ masked ∙ bq.holds) len

-- no more routers than LSAs are listed
routers-le : (A : List Advertisement) → length (listed_routers A) ≤ length A
routers-le [] = omega arith
routers-le (router_lsa r links ∷ rest) = omega (arith, routers-le rest)
routers-le (network_lsa n r mask attached ∷ rest) = omega (arith, routers-le rest)

module _ (A : List Advertisement) (tables : RouterId → List Route) (metrics : HasPositiveMetrics A) (have : HaveTables A tables) (address : ℕ) where
  -- a router whose table has a route is listed
  route_listed : (at : RouterId) (table : List Route) → IsTable A at table → (route : Route) → Contains table route → IsListed A at
  route_listed at table is route m = (All-contains (IsRoute A at) table route is.sound m).way.listed

  -- its best route by any table of it
  best_there : (at : RouterId) (table : List Route) → IsTable A at table → IsListed A at → (route : Route) → IsBest table address route → IsBest (tables at) address route
  best_there at table is listed route best = subst (λ (t : List Route). IsBest t address route) (table_unique A at table (tables at) is (have at listed)) best

  -- one step more
  extended : (routers : List RouterId) (a b c : RouterId) (paid cost : ℕ) → IsWalk A tables address a routers b paid → IsWalkStep A tables address b c cost
      → IsWalk A tables address a (routers ++ c ∷ []) c (paid + cost)
  extended [] a b c paid cost walk step = (cost, 0, subst (λ r. IsWalkStep A tables address r c cost) (sym walk.0) step, (refl, refl), (let none = walk.1 in omega arith))
  extended (d ∷ rest) a b c paid cost walk step =
      (walk.0, walk.1 + cost, walk.2, extended rest d b c walk.1 cost walk.3 step, (let sums = walk.4 in omega arith))

  module _ (a : RouterId) (first : Route) (listed : IsListed A a) (best : IsBest (tables a) address first) where
    abbrev Ended : List ℕ → Type 0
    Ended text = (legs : List ℕ) × (text ≡ legs ++ arrived_line first.prefix first.cost)

    sound : (routers : List RouterId) (b : RouterId) (paid : ℕ) → IsWalk A tables address a routers b paid → IsSoundWalk A tables address a first routers b paid
    sound routers b paid walk = walk_law A tables address a first metrics (λ r there reached. have r there) listed best routers b paid walk

    way_ends : (routers : List RouterId) (at : RouterId) (paid most : ℕ) (choices text : List ℕ) → IsWalk A tables address a routers at paid → length A ≤ length routers + most
        → SaysWay A address most choices at paid text → Ended text
    way_ends routers at paid most choices text walk enough (strays none) =
        let on : IsOnWay A tables address first at paid = (sound routers at paid walk).on_way in
        let same = table_unique A at none.table (tables at) none.is_table (have at on.listed) in
        absurd (none.none on.route (subst (λ (t : List Route). Contains t on.route) (sym same) on.best.listed) on.best.holds)
    way_ends routers at paid most choices text walk enough (arrives route takes) =
        let on : IsOnWay A tables address first at paid = (sound routers at paid walk).on_way in
        let mine = best_there at takes.table takes.is_table on.listed route takes.best in
        let prefix : route.prefix ≡ on.route.prefix = best_prefix (tables at) address route on.route mine on.best in
        let exact = All-contains (IsRoute A at) (tables at) route (have at on.listed).sound mine.listed in
        let other = All-contains (IsRoute A at) (tables at) on.route (have at on.listed).sound on.best.listed in
        let cost : route.cost ≡ on.route.cost = one_cost A at route on.route exact other prefix in
        let total : paid + route.cost ≡ first.cost = (let left : paid + on.route.cost ≡ first.cost = on.cost_left in omega arith) in (
          leg_line (leg_of at (first_choice choices) route Attached route.cost),
          ap (λ (l : List ℕ). leg_line (leg_of at (first_choice choices) route Attached route.cost) ++ l)
              (ap (λ (p : Prefix). arrived_line p (paid + route.cost)) (prefix ∙ on.same_prefix) ∙ ap (λ (c : ℕ). arrived_line first.prefix c) total),
        )
    way_ends routers at paid most choices text walk enough (goes_on {most = fewer} {text = rest} route hop next link takes leads costs later) =
        let on : IsOnWay A tables address first at paid = (sound routers at paid walk).on_way in
        let step : IsWalkStep A tables address at next link = record {
          route = route;
          hop = hop;
          best = best_there at takes.table takes.is_table on.listed route takes.best;
          chosen = contains_at route.hops (first_choice choices % length route.hops) hop takes.chosen;
          next = leads;
          link_cost = costs;
        } in
        let there = way_ends (routers ++ next ∷ []) next (paid + link) fewer (later_choices choices) rest (extended routers a at next paid link walk step)
        (omega (arith, enough, length-append routers (next ∷ []))) later in (
          leg_line (leg_of at (first_choice choices) route hop link) ++ there.0,
          ap (λ (l : List ℕ). leg_line (leg_of at (first_choice choices) route hop link) ++ l) there.1 ∙ sym (append_assoc _ there.0 _),
        )
    way_ends routers at paid most choices text walk enough (turns route hop next takes leads) =
        let short : length routers < length (listed_routers A) = (sound routers at paid walk).short in
        absurd (omega (arith, short, enough, routers-le A))

  -- of a router with such a table
  from_table : (from : RouterId) (table : List Route) → IsTable A from table → (route : Route) → IsBest table address route
      → (most : ℕ) (choices text : List ℕ) → length A ≤ most → SaysPath A from address choices most text → EndsOnRoute A address from text
  from_table from table is route best most choices text enough says =
      let listed = route_listed from table is route best.listed in
      let ends = way_ends from route listed (best_there from table is listed route best) [] from 0 most choices text (refl, refl) (omega (arith, enough)) says in
      record { table = table; is_table = is; route = route; best = best; legs = ends.0; is = ends.1 }

-- of any router
arrive : (A : List Advertisement) (tables : RouterId → List Route) → HasPositiveMetrics A → HaveTables A tables → (from : RouterId) (address most : ℕ) (choices text : List ℕ)
    → length A ≤ most → SaysPath A from address choices most text → (HasNoRouteFor A address from × (text ≡ no_route_line from)) ⊎ EndsOnRoute A address from text
arrive A tables metrics have from address most choices text enough (strays none) = inl (none, refl)
arrive A tables metrics have from address most choices text enough (arrives route takes) =
    inr (from_table A tables metrics have address from takes.table takes.is_table route takes.best most choices text enough (arrives route takes))
arrive A tables metrics have from address most choices text enough (goes_on route hop next link takes leads costs later) =
    inr (from_table A tables metrics have address from takes.table takes.is_table route takes.best most choices text enough (goes_on route hop next link takes leads costs later))
arrive A tables metrics have from address most choices text enough (turns route hop next takes leads) =
    inr (from_table A tables metrics have address from takes.table takes.is_table route takes.best most choices text enough (turns route hop next takes leads))

pub ways_arrive : WaysArrive
unfolding advertisements_of
ways_arrive lsas tables from address choices text is have says =
    let many : length (advertisements_of lsas) ≡ length lsas = length-map lsas advertisement_of in
    arrive (advertisements_of lsas) tables (positive lsas is) have from address (length lsas) choices text (omega (arith, many)) says
