-- Ways from router to router.
use Rattle.std.proofs.Common.{◌≡◌, ◌≢◌, ◌∙◌, ◌+◌, ◌*◌, ◌^◌, ◌<◌, ◌++◌, ◌∷◌, ◌%◌, ℕ, zero, suc, List, [], None, Some, ap, length, slice_get, subst, sym, arith, append_assoc, append-nil, inl, inr}
use Rattle.std.specs.Prelude.{Option}
use Rattle.std.specs.List.{Contains}
use Rattle.std.proofs.lemmas.List.Elements.{All-contains}
use Rattle.ospf_base.specs.declared.ids.RouterId.{RouterId}
use Rattle.ospf_graph.proofs.WalkSteps.{onward_of}
use Rattle.ospf_graph.specs.Advertisements.{Advertisement}
use Rattle.ospf_graph.specs.Routes.{IsHop, IsRoute, IsTable}
use Rattle.ospf_graph.specs.Walk.{HasLinkFor, IsBest, IsLinkCost, IsNext}
use Rattle.ospf_graph.specs.declared.hop.NextHop.{NextHop}
use Rattle.ospf_graph.specs.declared.hop.NextHop.TheVariants as hops
use Rattle.ospf_graph.specs.declared.route.Route.{Route}
use Rattle.ospf_inspect.specs.Path.{HasNoRouteFor, SaysLeg, SaysWay, TakesHop, arrives, arrived_line, first_choice, goes_on, later_choices, leg_line, leg_of, no_route_line, strays, turns, turns_line}
use Rattle.ospf_inspect.specs.declared.path.PathLeg.{PathLeg}
use Rattle.ospf_inspect.specs.declared.path.PathState.{PathState}

-- what stands at a place is in the list
pub contains_at : {X : Type 0} (xs : List X) (i : ℕ) (x : X) → slice_get xs i ≡ Some x → Contains xs x
contains_at [] i x is = cc
contains_at (y ∷ ys) zero x is = (zero, omega arith, (let same : y ≡ x = cc in same))
contains_at (y ∷ ys) (suc i) x is = let h = contains_at ys i x is in (suc h.0, omega arith, h.2)

-- a hop of a route that is not `Attached` has a link
pub hop_linked : (adverts : List Advertisement) (at : RouterId) (table : List Route) (address : ℕ) (route : Route) (place : ℕ) (hop : NextHop) → IsTable adverts at table
    → IsBest table address route → slice_get route.hops place ≡ Some hop → hop ≢ hops.Attached → (m : ℕ) × HasLinkFor adverts at hop m
hop_linked adverts at table address route place hop is best taken apart =
    let r : IsRoute adverts at route = All-contains (IsRoute adverts at) table route is.sound best.listed in
    let h : IsHop adverts at route.prefix hop = (r.hops hop).0 (contains_at route.hops place hop taken) in
    elim (onward_of adverts at route.prefix h.way.path h.way.end h.way.end_cost h.way.leads h.way.ends) [
      | inl here ↦ absurd (apart (h.hop_is ∙ here))
      | inr on ↦ subst (λ (x : NextHop). (m : ℕ) × HasLinkFor adverts at x m) (sym h.hop_is) (on.cost, on.link)
    ]

-- what a router takes, by the choice that is the first one
pub takes_it : (adverts : List Advertisement) (address : ℕ) (choices : List ℕ) (choice : ℕ) (at : RouterId) (table : List Route) (route : Route) (hop other : NextHop)
    → IsTable adverts at table → IsBest table address route → slice_get route.hops (choice % length route.hops) ≡ Some hop → choice ≡ first_choice choices → hop ≡ other
    → TakesHop adverts address (first_choice choices) at route other
takes_it adverts address choices choice at table route hop other is best taken first same =
    subst (λ (h : NextHop). TakesHop adverts address (first_choice choices) at route h) same (subst (λ (n : ℕ). TakesHop adverts address n at route hop) first
    (record { table = table; is_table = is; best = best; chosen = taken }))

pub leg_said : (choices : List ℕ) (choice : ℕ) (at : RouterId) (route : Route) (hop other : NextHop) (cost : ℕ) (leg : PathLeg) (line : List ℕ) → line ≡ leg_line leg
    → leg ≡ leg_of at choice route hop cost → choice ≡ first_choice choices → hop ≡ other → line ≡ leg_line (leg_of at (first_choice choices) route other cost)
leg_said choices choice at route hop other cost leg line line_is leg_is first same =
    line_is ∙ ap leg_line (leg_is ∙ ap (λ (n : ℕ). leg_of at n route hop cost) first ∙ ap (λ (h : NextHop). leg_of at (first_choice choices) route h cost) same)

module _ (adverts : List Advertisement) (address most : ℕ) (choices : List ℕ) (at : RouterId) (paid : ℕ) (old new : List ℕ) where
  pub strays_said : (line : List ℕ) → HasNoRouteFor adverts address at → line ≡ no_route_line at → new ≡ old ++ line
      → (rest : List ℕ) × SaysWay adverts address most choices at paid rest × (new ≡ old ++ rest)
  strays_said line none line_is new_is = (no_route_line at, strays none, new_is ∙ ap (λ l. old ++ l) line_is)

  pub arrives_said : (route : Route) (first last mid : List ℕ) → TakesHop adverts address (first_choice choices) at route hops.Attached
      → first ≡ leg_line (leg_of at (first_choice choices) route hops.Attached route.cost) → last ≡ arrived_line route.prefix (paid + route.cost) → mid ≡ old ++ first
      → new ≡ mid ++ last → (rest : List ℕ) × SaysWay adverts address most choices at paid rest × (new ≡ old ++ rest)
  arrives_said route first last mid takes first_is last_is mid_is new_is = (
    leg_line (leg_of at (first_choice choices) route hops.Attached route.cost) ++ arrived_line route.prefix (paid + route.cost),
    arrives route takes,
    new_is ∙ ap (λ l. l ++ last) mid_is ∙ append_assoc old first last ∙ ap (λ l. old ++ (l ++ last)) first_is
        ∙ ap (λ l. old ++ (leg_line (leg_of at (first_choice choices) route hops.Attached route.cost) ++ l)) last_is,
  )

  pub turns_said : (route : Route) (hop : NextHop) (next : RouterId) (line : List ℕ) → most ≡ 0 → TakesHop adverts address (first_choice choices) at route hop → IsNext hop next
      → line ≡ turns_line at → new ≡ old ++ line → (rest : List ℕ) × SaysWay adverts address most choices at paid rest × (new ≡ old ++ rest)
  turns_said route hop next line none takes next_is line_is new_is = (
    turns_line at,
    subst (λ (m : ℕ). SaysWay adverts address m choices at paid (turns_line at)) (sym none) (turns route hop next takes next_is),
    new_is ∙ ap (λ l. old ++ l) line_is,
  )

  pub leads_on : (route : Route) (hop : NextHop) (next : RouterId) (link fewer : ℕ) (later : List ℕ) (first : List ℕ) → suc fewer ≡ most → link < 65536
      → TakesHop adverts address (first_choice choices) at route hop → IsNext hop next → IsLinkCost adverts at hop link → later ≡ later_choices choices
      → first ≡ leg_line (leg_of at (first_choice choices) route hop link) → new ≡ old ++ first
      → (said : List ℕ) × ((suc fewer ≡ most) × (paid + link < paid + 65536)
      × ((rest : List ℕ) → SaysWay adverts address fewer later next (paid + link) rest → SaysWay adverts address most choices at paid (said ++ rest))) × (new ≡ old ++ said)
  leads_on route hop next link fewer later first more small takes next_is link_is later_is first_is new_is =
      let said = leg_line (leg_of at (first_choice choices) route hop link) in (
        said,
        (
          more,
          omega (arith, small),
          λ rest says.
              subst (λ (m : ℕ). SaysWay adverts address m choices at paid (said ++ rest)) more
              (goes_on route hop next link takes next_is link_is (subst (λ (cs : List ℕ). SaysWay adverts address fewer cs next (paid + link) rest) later_is says)),
        ),
        new_is ∙ ap (λ l. old ++ l) first_is,
      )

-- ---- the way so far

-- what is said of a way: all of it where it has ended, else what stands before all that is said from a router on, of which the cost can be added up
abbrev pub IsUnderWay : List Advertisement → ℕ → PathState → List ℕ → Option PathState → List ℕ → Type 0
IsUnderWay adverts address way old None now = (rest : List ℕ) × SaysWay adverts address way.most way.choices.now way.at way.paid rest × (now ≡ old ++ rest)
IsUnderWay adverts address way old (Some here) now =
    (here.paid + 65536 * here.most < 2 ^ 127)
    × ((begun : List ℕ)
    × ((rest : List ℕ) → SaysWay adverts address here.most here.choices.now here.at here.paid rest → SaysWay adverts address way.most way.choices.now way.at way.paid (begun ++ rest))
    × (now ≡ old ++ begun))

-- how many routers may still be met, the one at which the way goes on among them
abbrev pub left_of : Option PathState → ℕ
left_of None = 0
left_of (Some here) = suc here.most

pub fewer_left : (adverts : List Advertisement) (address : ℕ) (here : PathState) (said : List ℕ) (next before : Option PathState) → SaysLeg adverts address here said next → before ≡ Some here
    → left_of next < left_of before
fewer_left adverts address here said None before says is = subst (λ (o : Option PathState). 0 < left_of o) (sym is) (omega arith)
fewer_left adverts address here said (Some n) before says is = subst (λ (o : Option PathState). suc n.most < left_of o) (sym is) (omega (arith, says.0))
