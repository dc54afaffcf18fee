-- What each failure of an area changes in the tables of all its routers.
use Rattle.std.specs.Prelude.{◌≡◌, ◌↔◌, ◌<◌, ◌^◌, ℕ, true, false, List, [], ◌∷◌, ◌+◌, ◌++◌, ◌⊎◌, All, AllPairs, Any, Contains, IsPermutation, Vec, codes, count_by, filter, flat_map, fold, length, map, not, string_bytes, sum_by}
use Rattle.std.specs.Cmp.Lexicographic.{slice_cmp}
use Rattle.std.specs.List.{AllZip, zip}
use Rattle.std.specs.List.Sorted.{IsSorted}
use Rattle.std.specs.Ordering.{nat_cmp, ordering_then}
use Rattle.std.specs.declared.alloc.Global.{Global}
use Rattle.std.specs.declared.cmp.Ordering.{Ordering}
use Rattle.std.specs.declared.cmp.Reverse.{Reverse}
use Rattle.ospf_base.specs.Text.{number_text}
use Rattle.ospf_base.specs.declared.ids.RouterId.{RouterId}
use Rattle.ospf_graph.specs.Advertisements.{Advertisement, IsListed}
use Rattle.ospf_graph.specs.Routes.{IsTable}
use Rattle.ospf_graph.specs.declared.route.Route.{Route}
use Rattle.ospf_harm.specs.Carrier.{IsFailureBy}
use Rattle.ospf_whatif.specs.Effect.{IsEffectIn}
use Rattle.ospf_whatif.specs.Failure.{without_all}
use Rattle.ospf_whatif.specs.Outage.{IsOutage}
use Rattle.ospf_whatif.specs.Single.{IsFailureBefore}
use Rattle.ospf_harm.specs.declared.carrier.Breakdown.{Breakdown}
use Rattle.ospf_harm.specs.declared.carrier.Carrier.{Carrier}
use Rattle.ospf_whatif.specs.declared.effect.RouteChange.{RouteChange}
use Rattle.ospf_whatif.specs.declared.failure.AreaFailure.{AreaFailure}
use Rattle.ospf_whatif.specs.declared.failure.AreaFailure.TheVariants.{Router}
use Rattle.ospf_table.specs.Changes.{change_line, totals_of}
use Rattle.ospf_table.specs.Sums.{HasSumRoom, has_changes, sums_line, sums_plus}
use Rattle.ospf_table.specs.declared.sums.Sums.{Sums}
use Rattle.ospf_harm.specs.Harm.{HasHarmRoom, harm_at, harm_plus, no_harm}
use Rattle.ospf_harm.specs.declared.harm.Harm.{Harm}
use Rattle.ospf_harm.specs.Reports.{is_of, failure_place}
use Rattle.ospf_harm.specs.Together.{AreSingle, IsEffectBy}
use Rattle.ospf_harm.specs.declared.cases.Before.{Before}
use Rattle.ospf_failures.specs.declared.roots.FailureOutage.{FailureOutage}
use Rattle.ospf_failures.specs.Sights.{SightValue}
use Rattle.ospf_failures.specs.declared.overall.RouteDetail.{RouteDetail}
use Rattle.ospf_failures.specs.declared.overall.RouteDetail.TheVariants as detail
use Rattle.ospf_failures.specs.declared.overall.Overall.{Overall}

-- ---- at each router

-- what the failure and all that fails with it change in the table of the router; `single` is all
-- that may fail in the area
pub record IsSight (carrier : Carrier) (single : List AreaFailure) (adverts : List Advertisement)
    (failure : AreaFailure) (sight : SightValue) : Type 0 where
  pub table : List Route
  pub is_table : IsTable adverts sight.0 table
  pub effect : IsEffectBy carrier single adverts sight.0 failure table sight.1

-- what they change in the table of each router of the area but the one that
-- fails, in the order of Router IDs
pub record AreSights (carrier : Carrier) (single : List AreaFailure) (adverts : List Advertisement)
    (failure : AreaFailure) (sights : List SightValue) : Type 0 where
  pub whole : (router : RouterId)
      → Contains (map (λ s. s.0) sights) router
      ↔ (IsListed adverts router × (failure ≡ Router router → ⊥))
  pub rising : AllPairs (λ r s. r.0 < s.0) (map (λ s. s.0) sights)
  pub seen : All (IsSight carrier single adverts failure) sights

-- ---- over all routers

-- the totals of the failure at each router, added up; and at how many routers something changes
abbrev pub sums_of : List SightValue → Sums
sums_of sights = record {
  cut = sum_by (λ s. (totals_of s.1).cut) sights;
  gone = sum_by (λ s. (totals_of s.1).gone) sights;
  cost = sum_by (λ s. (totals_of s.1).cost) sights;
  hops = sum_by (λ s. (totals_of s.1).hops) sights;
  routers = count_by (λ s. has_changes s.1) sights;
}

-- how much the failure harms all of these routers, added up
abbrev pub harm_of : AreaFailure → List SightValue → Harm
harm_of f sights = fold (λ h s. harm_plus h (harm_at f s.1)) no_harm sights

-- a line for each route that changes at a router, which begins with the router
abbrev pub sight_lines : AreaFailure → SightValue → List ℕ
sight_lines failure sight =
    flat_map (λ c. number_text sight.0.0 ++ codes " " ++ change_line failure c) sight.1

-- the lines, where these are wanted
abbrev pub lines_kept : RouteDetail → AreaFailure → List SightValue → List ℕ
lines_kept detail.Lines failure sights = flat_map (sight_lines failure) sights
lines_kept _ failure sights = []

-- the routes, where these are
abbrev pub sights_kept : RouteDetail → List SightValue → List SightValue
sights_kept detail.Routes sights = sights
sights_kept _ sights = []

-- what is reported for a failure, with the lines or the routes where they are wanted
pub record IsOverall (carrier : Carrier) (single : List AreaFailure) (adverts : List Advertisement)
    (wanted : RouteDetail) (o : Overall) : Type 0 where
  pub sights : List SightValue
  pub are_sights : AreSights carrier single adverts o.failure sights
  pub sums_are : o.sums ≡ sums_of sights
  pub harm_is : o.harm ≡ harm_of o.failure sights
  pub lines_are : string_bytes o.lines ≡ lines_kept wanted o.failure sights
  pub sights_are : o.sights.items ≡ sights_kept wanted sights

-- ---- in order

-- the counts by which failures are ordered
abbrev pub sum_counts : Sums → List ℕ
sum_counts s = s.cut ∷ s.gone ∷ s.cost ∷ s.hops ∷ []

-- as for one root
abbrev pub overall_cmp : Overall → Overall → Ordering
overall_cmp a b =
    ordering_then (slice_cmp nat_cmp (sum_counts b.sums) (sum_counts a.sums))
    (slice_cmp nat_cmp (failure_place a.failure) (failure_place b.failure))

-- the numbers that it is put in order by
abbrev pub overall_rank : Overall → Reverse (List ℕ) × List ℕ
overall_rank o = (record { 0 = sum_counts o.sums }, failure_place o.failure)

-- what is printed over all roots: for each failure of the area, with this carrier of the links,
-- what it changes, in order
pub record AreOveralls (carrier : Carrier) (adverts : List Advertisement) (wanted : RouteDetail)
    (printed : List Overall) : Type 0 where
  pub single : List AreaFailure
  pub are_single : AreSingle adverts single
  pub overalls : List Overall
  pub whole : (failure : AreaFailure)
      → Contains (map (λ o. o.failure) overalls) failure ↔ IsFailureBy carrier adverts failure
  pub rising : AllPairs IsFailureBefore (map (λ o. o.failure) overalls)
  pub seen : All (IsOverall carrier single adverts wanted) overalls
  pub permuted : IsPermutation overalls printed
  pub in_order : IsSorted overall_cmp printed

-- the lines of all
abbrev pub overalls_text : List Overall → List ℕ
overalls_text printed = flat_map (λ o. string_bytes o.lines ++ sums_line o.failure o.sums) printed

-- some failure cuts a prefix off somewhere
abbrev pub CutsSomewhere : List Overall → Type 0
CutsSomewhere printed = Any (λ o. 0 < o.sums.cut) printed

-- ---- on the way

-- the router that fails
abbrev pub failing_router : AreaFailure → List RouterId
failing_router (Router router) = router ∷ []
failing_router f = []

-- the routers of an area, by its failures
abbrev pub roots_in : List AreaFailure → List RouterId
roots_in failures = flat_map failing_router failures

-- a failure, and what it and all that fails with it take from the graph of the area
pub record IsOutageOf (adverts : List Advertisement) (b : Breakdown) (o : FailureOutage)
    : Type 0 where
  pub failure_is : o.failure ≡ b.failure
  pub parts_are : o.outage.failures.items ≡ b.parts.items
  pub outage : IsOutage adverts o.outage

-- what failures take from the graph of the area
abbrev pub AreOutages : List Advertisement → List FailureOutage → Type 0
AreOutages adverts outages = All (λ o. IsOutage adverts o.outage) outages

-- what the outage leaves of the area
abbrev pub left_after_outage : List Advertisement → FailureOutage → List Advertisement
left_after_outage adverts o = without_all o.outage.failures.items adverts

-- what failures that leave this of the area change in the table of a router
pub record IsSightFrom (adverts left : List Advertisement) (sight : SightValue) : Type 0 where
  pub table : List Route
  pub is_table : IsTable adverts sight.0 table
  pub effect : IsEffectIn left sight.0 table sight.1
  pub few : length sight.1 < 2 ^ 64

-- the result so far, over some of the routers
pub record IsSoFar (adverts left : List Advertisement) (wanted : RouteDetail)
    (roots : List RouterId) (o : Overall) : Type 0 where
  pub sights : List SightValue
  pub routers : map (λ s. s.0) sights ≡ filter (λ r. not (is_of r o.failure)) roots
  pub seen : All (IsSightFrom adverts left) sights
  pub sums_are : o.sums ≡ sums_of sights
  pub harm_is : o.harm ≡ harm_of o.failure sights
  pub lines_are : string_bytes o.lines ≡ lines_kept wanted o.failure sights
  pub sights_are : o.sights.items ≡ sights_kept wanted sights

-- what an outage changes in the tables of these routers
pub record IsSeenAt (adverts : List Advertisement) (wanted : RouteDetail) (roots : List RouterId)
    (outage : FailureOutage) (o : Overall) : Type 0 where
  pub failure_is : o.failure ≡ outage.failure
  pub so_far : IsSoFar adverts (left_after_outage adverts outage) wanted roots o

-- what each of these outages changes there
abbrev pub AreSeenAt
    : List Advertisement → RouteDetail → List FailureOutage → List RouterId → Vec Overall Global
    → Type 0
AreSeenAt adverts wanted outages roots overalls =
    AllZip (IsSeenAt adverts wanted roots) outages overalls.items

-- what is kept of one router more
pub record KeepsMore (wanted : RouteDetail) (sight : SightValue) (old new : Overall) : Type 0 where
  pub same : new.failure ≡ old.failure
  pub sums_are : new.sums ≡ old.sums
  pub harm_is : new.harm ≡ old.harm
  pub lines_are :
      string_bytes new.lines ≡ string_bytes old.lines ++ lines_kept wanted old.failure (sight ∷ [])
  pub sights_are : new.sights.items ≡ old.sights.items ++ sights_kept wanted (sight ∷ [])

-- one router more, which does not fail
pub record SeesMore (left : List Advertisement) (before : Before) (wanted : RouteDetail)
    (old new : Overall) : Type 0 where
  pub changes : List RouteChange
  pub few : length changes < 2 ^ 64
  pub effect : IsEffectIn left before.root before.table changes
  pub other : is_of before.root old.failure ≡ false
  pub same : new.failure ≡ old.failure
  pub sums_are : new.sums ≡ sums_plus old.sums changes
  pub harm_is : new.harm ≡ harm_plus old.harm (harm_at old.failure changes)
  pub lines_are : string_bytes new.lines
      ≡ string_bytes old.lines ++ lines_kept wanted old.failure ((before.root, changes) ∷ [])
  pub sights_are :
      new.sights.items ≡ old.sights.items ++ sights_kept wanted ((before.root, changes) ∷ [])

-- one router more, which may be what fails
abbrev pub Sees : List Advertisement → Before → RouteDetail → Overall → Overall → Type 0
Sees left before wanted old new =
    ((is_of before.root old.failure ≡ true) × (new ≡ old)) ⊎ SeesMore left before wanted old new

-- at each of some outages one router more
abbrev pub AreSeenMore
    : List Advertisement → Before → RouteDetail → List FailureOutage → List Overall → List Overall
    → Type 0
AreSeenMore adverts before wanted outages old new =
    AllZip (λ p o. Sees (left_after_outage adverts p.0) before wanted p.1 o) (zip outages old) new

-- one router more can be added
pub record HasRoomForOne (o : Overall) : Type 0 where
  pub sums : HasSumRoom 1 o.sums
  pub harm : HasHarmRoom 1 o.harm

-- ---- at two groups of routers

-- what is found at both can be added
pub record FitTogether (a b : Overall) : Type 0 where
  pub cut : a.sums.cut + b.sums.cut < 2 ^ 128
  pub gone : a.sums.gone + b.sums.gone < 2 ^ 128
  pub cost : a.sums.cost + b.sums.cost < 2 ^ 128
  pub hops : a.sums.hops + b.sums.hops < 2 ^ 128
  pub routers : a.sums.routers + b.sums.routers < 2 ^ 64
  pub lost : a.harm.lost + b.harm.lost < 2 ^ 128
  pub rerouted : a.harm.rerouted + b.harm.rerouted < 2 ^ 128
  pub own : a.harm.own + b.harm.own < 2 ^ 128

-- the sums of both
abbrev pub sums_and : Sums → Sums → Sums
sums_and s t = record {
  cut = s.cut + t.cut;
  gone = s.gone + t.gone;
  cost = s.cost + t.cost;
  hops = s.hops + t.hops;
  routers = s.routers + t.routers;
}

-- what is found of a failure at both
pub record IsSumOfBoth (a b both : Overall) : Type 0 where
  pub same : both.failure ≡ a.failure
  pub sums_are : both.sums ≡ sums_and a.sums b.sums
  pub harm_is : both.harm ≡ harm_plus a.harm b.harm
  pub lines_are : string_bytes both.lines ≡ string_bytes a.lines ++ string_bytes b.lines
  pub sights_are : both.sights.items ≡ a.sights.items ++ b.sights.items

-- of each failure
abbrev pub AreSumsOfBoth : List Overall → List Overall → List Overall → Type 0
AreSumsOfBoth some more both = AllZip (λ p o. IsSumOfBoth p.0 p.1 o) (zip some more) both
