-- What each failure of an area changes in a router's table, and the order in which that is printed.
use Rattle.std.specs.Prelude.{◌≡◌, ◌↔◌, ◌<◌, ◌==◌, ℕ, Bool, false, List, [], ◌∷◌, All, AllPairs, Any, Contains, IsPermutation, flat_map, map}
use Rattle.std.specs.Cmp.Lexicographic.{slice_cmp}
use Rattle.std.specs.List.{AllZip}
use Rattle.std.specs.List.Sorted.{IsSorted}
use Rattle.std.specs.Ordering.{nat_cmp, ordering_then}
use Rattle.std.specs.declared.cmp.Ordering.{Ordering}
use Rattle.std.specs.declared.cmp.Reverse.{Reverse}
use Rattle.ospf_base.specs.declared.ids.RouterId.{RouterId}
use Rattle.ospf_graph.specs.Advertisements.{Advertisement}
use Rattle.ospf_graph.specs.declared.route.Route.{Route}
use Rattle.ospf_harm.specs.Carrier.{IsFailureBy}
use Rattle.ospf_whatif.specs.Effect.{IsEffectIn}
use Rattle.ospf_whatif.specs.Failure.{without_all}
use Rattle.ospf_whatif.specs.Single.{IsFailureBefore}
use Rattle.ospf_harm.specs.declared.carrier.Breakdown.{Breakdown}
use Rattle.ospf_harm.specs.declared.carrier.Carrier.{Carrier}
use Rattle.ospf_harm.specs.declared.cases.FailureCases.{FailureCases}
use Rattle.ospf_whatif.specs.declared.failure.AreaFailure.{AreaFailure}
use Rattle.ospf_whatif.specs.declared.failure.AreaFailure.TheVariants.{Attachment, End, Link, Links, Network, Router, Stub}
use Rattle.ospf_whatif.specs.declared.effect.RouteChange.{RouteChange}
use Rattle.ospf_table.specs.Changes.{failure_lines, totals_of}
use Rattle.ospf_table.specs.declared.totals.Totals.{Totals}
use Rattle.ospf_harm.specs.Together.{AreSingle, IsEffectBy}

-- a failure, and what it changes
abbrev pub ReportValue : Type 0
ReportValue = AreaFailure × List RouteChange

-- ---- all of an area

-- that of the router
abbrev pub is_of : RouterId → AreaFailure → Bool
is_of router (Router gone) = gone.0 == router.0
is_of router (Link a b subnet) = false
is_of router (End a b subnet) = false
is_of router (Links a b) = false
is_of router (Attachment attached network) = false
is_of router (Network network) = false
is_of router (Stub attached prefix) = false

-- a failure of the area, with this carrier of the links, which is not the root's own
abbrev pub IsOtherFailure : Carrier → List Advertisement → RouterId → AreaFailure → Type 0
IsOtherFailure carrier adverts root failure =
    IsFailureBy carrier adverts failure × (failure ≡ Router root → ⊥)

-- each of these once, in their order, with what it and all that fails with it change in the root's
-- table
pub record AreReports (carrier : Carrier) (adverts : List Advertisement) (root : RouterId)
    (table : List Route) (reports : List ReportValue) : Type 0 where
  pub single : List AreaFailure
  pub are_single : AreSingle adverts single
  pub whole : (failure : AreaFailure)
      → Contains (map (λ r. r.0) reports) failure ↔ IsOtherFailure carrier adverts root failure
  pub rising : AllPairs IsFailureBefore (map (λ r. r.0) reports)
  pub changed : All (λ r. IsEffectBy carrier single adverts root r.0 table r.1) reports

-- ---- in order

-- the counts by which failures are ordered
abbrev pub counts_of : Totals → List ℕ
counts_of t = t.cut ∷ t.gone ∷ t.cost ∷ t.hops ∷ []

-- links in subnets, their ends, other links, attachments, networks, routers, interfaces to stub
-- networks; those of one kind by Router IDs, and then by address
abbrev pub failure_place : AreaFailure → List ℕ
failure_place (Link a b subnet) = 0 ∷ a.0 ∷ b.0 ∷ subnet.address.0 ∷ subnet.length ∷ []
failure_place (End router other subnet) =
    1 ∷ router.0 ∷ other.0 ∷ subnet.address.0 ∷ subnet.length ∷ []
failure_place (Links a b) = 2 ∷ a.0 ∷ b.0 ∷ 0 ∷ 0 ∷ []
failure_place (Attachment router network) = 3 ∷ router.0 ∷ network ∷ 0 ∷ 0 ∷ []
failure_place (Network network) = 4 ∷ network ∷ 0 ∷ 0 ∷ 0 ∷ []
failure_place (Router router) = 5 ∷ router.0 ∷ 0 ∷ 0 ∷ 0 ∷ []
failure_place (Stub router prefix) = 6 ∷ router.0 ∷ prefix.address.0 ∷ prefix.length ∷ 0 ∷ []

-- first what cuts off most, then what takes most with it, then what makes most dearer, then what
-- moves most; where all these are equal, by the failure's place
abbrev pub report_cmp : ReportValue → ReportValue → Ordering
report_cmp a b =
    ordering_then (slice_cmp nat_cmp (counts_of (totals_of b.1)) (counts_of (totals_of a.1)))
    (slice_cmp nat_cmp (failure_place a.0) (failure_place b.0))

-- the numbers that a report is put in order by
abbrev pub rank_of : ReportValue → Reverse (List ℕ) × List ℕ
rank_of r = (record { 0 = counts_of (totals_of r.1) }, failure_place r.0)

-- what is printed for the root: of each other failure of the area what it changes, in order
pub record IsReported (carrier : Carrier) (adverts : List Advertisement) (root : RouterId)
    (table : List Route) (printed : List ReportValue) : Type 0 where
  pub reports : List ReportValue
  pub are_reports : AreReports carrier adverts root table reports
  pub permuted : IsPermutation reports printed
  pub in_order : IsSorted report_cmp printed

-- the lines of all
abbrev pub reports_text : Bool → List ReportValue → List ℕ
reports_text each reports = flat_map (λ r. failure_lines each r.0 r.1) reports

-- some failure cuts a prefix off
abbrev pub HasCut : List ReportValue → Type 0
HasCut reports = Any (λ r. 0 < (totals_of r.1).cut) reports

-- ---- on the way

-- what a failure and all that fails with it change in the root's table
pub record IsReportOf (adverts : List Advertisement) (root : RouterId) (table : List Route)
    (b : Breakdown) (report : ReportValue) : Type 0 where
  pub failure_is : report.0 ≡ b.failure
  pub effect : IsEffectIn (without_all b.parts.items adverts) root table report.1

-- one report for each failure that is looked at, in their order
abbrev pub AreReportsFound : List Advertisement → FailureCases → List ReportValue → Type 0
AreReportsFound adverts cases reports =
    AllZip (IsReportOf adverts cases.before.root cases.before.table) cases.breakdowns.items reports
