-- Walks by choices, where routers list the same.
use Rattle.std.proofs.Common.{◌≡◌, ◌≢◌, ◌+◌, ◌==◌, ◌%◌, ◌≤◌, ◌++◌, ℕ, zero, suc, List, [], ◌∷◌, length, map, Option, None, Some, refl, sym, ap, subst, ◌∙◌, arith, append-nil, append_assoc}
use Rattle.std.proofs.lemmas.List.{length-map}
use Rattle.std.specs.List.{Contains, AllPairs, find}
use Rattle.std.specs.Option.{option_and_then}
use Rattle.std.proofs.lemmas.Bool.{eqb-true}
use Rattle.std.proofs.lemmas.Option.{none-some, same_Some}
use Rattle.std.proofs.lemmas.List.Elements.{All-contains}
use Rattle.std.specs.Prelude.{bit_and}
use Rattle.ospf_base.proofs.PrefixLaws.{prefix_same}
use Rattle.ospf_base.specs.Masks.{mask_of}
use Rattle.ospf_base.specs.declared.ids.RouterId.{RouterId}
use Rattle.ospf_graph.proofs.WalkLaw.{one_cost}
use Rattle.ospf_graph.specs.Routes.{IsRoute}
use Rattle.ospf_graph.specs.Walk.{IsBest}
use Rattle.ospf_graph.specs.declared.route.Route.{Route}
use Rattle.ospf_router.proofs.AreaStep.StateFacts.{Contains-from_slice_get, Contains-map, find-some, same_router}
use Rattle.ospf_world.specs.World.{World, Member, Running, router_at, HasItsTable}
use Rattle.ospf_world.specs.Walks.{adverts, table_in, StepsOn, WalksOn, StandsOnWay, RunningWalksArrive, WalkEnd, choice_of, other_choices, WalksBy, IsWalkOf, HasArrived}
use Rattle.ospf_world.proofs.Facts.{Facts}
use Rattle.ospf_world.proofs.Pigeons.{no_more}

-- the best routes of a table have one prefix
best_prefix : (routes : List Route) (address : ℕ) (p q : Route) → IsBest routes address p → IsBest routes address q → p.prefix ≡ q.prefix
best_prefix routes address p q bp bq =
    let up : q.prefix.length ≤ p.prefix.length = bp.longest q bq.listed bq.holds in
    let down : p.prefix.length ≤ q.prefix.length = bq.longest p bp.listed bp.holds in
    let len : p.prefix.length ≡ q.prefix.length = omega arith in
    let masked : bit_and address (mask_of p.prefix.length) ≡ bit_and address (mask_of q.prefix.length) = ap (λ n. bit_and address (mask_of n)) len in
    let addr : p.prefix.address.0 ≡ q.prefix.address.0 = sym bp.holds ∙ masked ∙ bq.holds in
    prefix_same p.prefix q.prefix addr len

-- and one cost
best_cost : (x : Running) (address : ℕ) (p q : Route) → HasItsTable x → IsBest x.table address p → IsBest x.table address q → p.cost ≡ q.cost
best_cost x address p q has bp bq =
    one_cost (adverts x) x.state.router p q
    (All-contains (IsRoute (adverts x) x.state.router) x.table p has.is_table.sound bp.listed)
    (All-contains (IsRoute (adverts x) x.state.router) x.table q has.is_table.sound bq.listed)
    (best_prefix x.table address p q bp bq)

-- a router that runs is one of the world's
is_in_world : (w : World) (r : RouterId) (x : Running) → router_at w r ≡ Some x → Contains (map (λ m. m.router) w.routers) r
unfolding router_at
is_in_world w r x at = go (find (λ m. m.router.0 == r.0) w.routers) refl at
  where
    go : (o : Option Member) → find (λ m. m.router.0 == r.0) w.routers ≡ o → option_and_then (λ m. m.running) o ≡ Some x → Contains (map (λ m. m.router) w.routers) r
    go None found at = absurd (none-some x at)
    go (Some e) found at =
        let (c, same) = find-some (λ m. m.router.0 == r.0) w.routers e found in
        subst (λ q. Contains (map (λ m. m.router) w.routers) q) (same_router e.router r (eqb-true e.router.0 r.0 same)) (Contains-map (λ m. m.router) w.routers e c)

-- one step more
walk_more : (w : World) (address : ℕ) (a : RouterId) (met : List RouterId) (b c : RouterId) (p link : ℕ) → WalksOn w address a met b p → StepsOn w address b c link → WalksOn w address a (met ++ c ∷ []) c (p + link)
walk_more w address a [] b c p link (here, none) step = (link, 0, subst (λ b. StepsOn w address b c link) (sym here) step, (refl, refl), omega arith)
walk_more w address a (d ∷ met) b c p link (cost, left, first, rest, sum) step = (cost, left + link, first, walk_more w address d met b c left link rest step, omega arith)

-- all that a walk meets run
all_run : (w : World) (address : ℕ) (a : RouterId) (routers : List RouterId) (b : RouterId) (p : ℕ) (y : Running) → WalksOn w address a routers b p → router_at w b ≡ Some y → (q : RouterId) → Contains (a ∷ routers) q → (x : Running) × (router_at w q ≡ Some x)
all_run w address a [] b p y (here, none) runs q (zero, within, is) = (y, ap (router_at w) (sym is ∙ here) ∙ runs)
all_run w address a [] b p y (here, none) runs q (suc k, within, is) = absurd (omega arith)
all_run w address a (c ∷ routers) b p y (cost, left, step, rest, sum) runs q (zero, within, is) = (step.running, ap (router_at w) (sym is) ∙ step.runs)
all_run w address a (c ∷ routers) b p y (cost, left, step, rest, sum) runs q (suc k, within, is) = all_run w address c routers b left y rest runs q (k, omega arith, is)

module _ (w : World) (a : RouterId) (x : Running) (facts : Facts w) (runs : router_at w a ≡ Some x) (arrive : RunningWalksArrive w a x) (address : ℕ) (first : Route) (best : IsBest x.table address first) where
  -- what comes of a walk that has met these routers and stands at the last of them
  data Outcome (met : List RouterId) (at : RouterId) (p left : ℕ) (routers : List RouterId) (paid : ℕ) (end : WalkEnd) : Type 0 where
    ItArrives : (rest : List RouterId) (b : RouterId) (q : ℕ) → routers ≡ at ∷ rest → WalksOn w address a (met ++ rest) b q → p + paid ≡ first.cost → end ≡ WalkEnd.Arrived → Outcome met at p left routers paid end
    ItTurns : (rest : List RouterId) (b : RouterId) (q : ℕ) → length rest ≡ left → WalksOn w address a (met ++ rest) b q → Outcome met at p left routers paid end

  stands_at : (met : List RouterId) (at : RouterId) (p : ℕ) → WalksOn w address a met at p → StandsOnWay w address first at p
  stands_at met at p walk = (arrive address first best met at p walk).stands

  none_more : (met : List RouterId) (at : RouterId) (p : ℕ) → WalksOn w address a met at p → WalksOn w address a (met ++ []) at p
  none_more met at p walk = subst (λ routers. WalksOn w address a routers at p) (sym (append-nil met)) walk

  outcome : (left : ℕ) (choices : List ℕ) (met : List RouterId) (at : RouterId) (p : ℕ) → WalksOn w address a met at p → (routers : List RouterId) (paid : ℕ) (end : WalkEnd) → IsWalkOf w address left choices at routers paid end → Outcome met at p left routers paid end
  outcome zero choices met at p walk routers paid end (alone, none, turns) = Outcome.ItTurns [] at p refl (none_more met at p walk)
  outcome (suc left) choices met at p walk routers paid end (WalksBy.Stops none alone free ends) = absurd (let s = stands_at met at p walk in none-some s.running (sym none ∙ s.runs))
  outcome (suc left) choices met at p walk routers paid end (WalksBy.Strays y at_y no_route alone free ends) =
      absurd (let s = stands_at met at p walk in let same : s.running ≡ y = same_Some s.running y (sym s.runs ∙ at_y) in
      let b = subst (λ y. IsBest y.table address s.route) same s.best in no_route s.route b.listed b.holds)
  outcome (suc left) choices met at p walk routers paid end (WalksBy.Arrives y route at_y by hop alone cost ends) =
      let s = stands_at met at p walk in
      let same : s.running ≡ y = same_Some s.running y (sym s.runs ∙ at_y) in
      let here : route.cost ≡ s.route.cost = best_cost y address route s.route (facts.tables at y at_y) by (subst (λ y. IsBest y.table address s.route) same s.best) in
      let remains : p + s.route.cost ≡ first.cost = s.cost_left in
      Outcome.ItArrives [] at p alone (none_more met at p walk) (omega arith) ends
  outcome (suc left) choices met at p walk routers paid end (WalksBy.Hops y route hop next link rest more at_y by chosen names costs goes_on are sum) =
      let step : StepsOn w address at next link = record {
        running = y;
        runs = at_y;
        step = record { route = route; hop = hop; best = subst (λ routes. IsBest routes address route) (sym (ap table_in at_y)) by; chosen = Contains-from_slice_get route.hops (choice_of choices % length route.hops) hop chosen; next = names; link_cost = costs };
      } in
      go (outcome left (other_choices choices) (met ++ next ∷ []) next (p + link) (walk_more w address a met at next p link walk step) rest more end goes_on)
    where
      joined : (others : List RouterId) (b : RouterId) (q : ℕ) → WalksOn w address a ((met ++ next ∷ []) ++ others) b q → WalksOn w address a (met ++ next ∷ others) b q
      joined others b q walk = subst (λ routers. WalksOn w address a routers b q) (append_assoc met (next ∷ []) others) walk

      go : Outcome (met ++ next ∷ []) next (p + link) left rest more end → Outcome met at p (suc left) routers paid end
      go (Outcome.ItArrives others b q their walk pays ends) = Outcome.ItArrives (next ∷ others) b q (are ∙ ap (λ routers. at ∷ routers) their) (joined others b q walk) (omega arith) ends
      go (Outcome.ItTurns others b q long walk) = Outcome.ItTurns (next ∷ others) b q (omega (arith, long)) (joined others b q walk)

  -- a walk of as many hops as the world has routers would meet one twice
  never_turns : (rest : List RouterId) (b : RouterId) (q : ℕ) → length rest ≡ length w.routers → WalksOn w address a rest b q → ⊥
  never_turns rest b q long walk =
      let s = (arrive address first best rest b q walk).stands in
      let apart = (arrive address first best rest b q walk).once in
      let few : length (a ∷ rest) ≤ length (map (λ m. m.router) w.routers) = no_more (a ∷ rest) (map (λ m. m.router) w.routers) apart (λ r c. let (y, at) = all_run w address a rest b q s.running walk s.runs r c in is_in_world w r y at) in
      let same : length (map (λ m. m.router) w.routers) ≡ length w.routers = length-map w.routers (λ m. m.router) in
      omega arith

  pub arrives : (choices : List ℕ) (routers : List RouterId) (paid : ℕ) (end : WalkEnd) → IsWalkOf w address (length w.routers) choices a routers paid end → HasArrived w address first a routers paid end
  arrives choices routers paid end walk = go (outcome (length w.routers) choices [] a 0 (refl, refl) routers paid end walk)
    where
      go : Outcome [] a 0 (length w.routers) routers paid end → HasArrived w address first a routers paid end
      go (Outcome.ItTurns rest b q long walk) = absurd (never_turns rest b q long walk)
      go (Outcome.ItArrives rest b q are walk pays ends) = record {
        arrived = ends;
        cost = (let sum : 0 + paid ≡ first.cost = pays in omega arith);
        apart = subst (λ routers. AllPairs (λ q r. q ≢ r) routers) (sym are) (arrive address first best rest b q walk).once;
        rest = rest;
        routers_are = are;
        last = b;
        links_paid = q;
        walk = walk;
        ends_there = (arrive address first best rest b q walk).stands;
      }
