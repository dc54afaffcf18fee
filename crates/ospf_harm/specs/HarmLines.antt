-- Failures by the harm that they do: the order, the lines of text, and version 2 of the JSON.
use Rattle.std.specs.Prelude.{◌++◌, ◌∷◌, ℕ, Bool, true, false, List, [], codes, flat_map, if◌then◌else◌, map}
use Rattle.std.specs.Cmp.Lexicographic.{slice_cmp}
use Rattle.std.specs.Ordering.{nat_cmp, ordering_then}
use Rattle.std.specs.declared.cmp.Ordering.{Ordering}
use Rattle.std.specs.declared.cmp.Reverse.{Reverse}
use Rattle.serde_json.specs.Data.{Data, Members, array, object, put, no_members}
use Rattle.serde_json.specs.View.{items_of}
use Rattle.ospf_base.specs.declared.ids.RouterId.{RouterId}
use Rattle.ospf_table.specs.Changes.{change_line, totals_of}
use Rattle.ospf_table.specs.Objects.{change_data, data_line}
use Rattle.ospf_whatif.specs.declared.failure.AreaFailure.{AreaFailure}
use Rattle.ospf_harm.specs.declared.hidden.HiddenCost.{HiddenCost}
use Rattle.ospf_harm.specs.Element.{with_element, with_harm}
use Rattle.ospf_harm.specs.Harm.{harm_at, harm_line}
use Rattle.ospf_harm.specs.Json.{totals_members}
use Rattle.ospf_harm.specs.Reports.{ReportValue, failure_place}
use Rattle.ospf_harm.specs.Warnings.{hidden_names}
use Rattle.ospf_harm.specs.declared.harm.Harm.{Harm}

-- ---- in order of harm

-- the numbers by which failures are ordered
abbrev pub harm_counts : Harm → List ℕ
harm_counts h = h.lost ∷ h.rerouted ∷ h.rise ∷ h.own ∷ []

-- first what loses most routes, then what moves most, then the worst rise, then what takes most
-- with it; where all these are equal, by the failure's place
abbrev pub harm_cmp : Harm → Harm → AreaFailure → AreaFailure → Ordering
harm_cmp g h e f =
    ordering_then (slice_cmp nat_cmp (harm_counts h) (harm_counts g))
    (slice_cmp nat_cmp (failure_place e) (failure_place f))

-- the numbers that a failure is put in order by
abbrev pub harm_rank : Harm → AreaFailure → Reverse (List ℕ) × List ℕ
harm_rank h f = (record { 0 = harm_counts h }, failure_place f)

-- how much the failure of a report harms the root
abbrev pub report_harm : ReportValue → Harm
report_harm r = harm_at r.0 r.1

-- the order of reports for a root
abbrev pub report_harm_cmp : ReportValue → ReportValue → Ordering
report_harm_cmp a b = harm_cmp (report_harm a) (report_harm b) a.0 b.0

-- the numbers that a report is put in this order by
abbrev pub report_harm_rank : ReportValue → Reverse (List ℕ) × List ℕ
report_harm_rank r = harm_rank (report_harm r) r.0

-- ---- as lines of text

-- a line for each route that changes if that is wanted, and then the line of the failure
abbrev pub report_harm_lines : Bool → ReportValue → List ℕ
report_harm_lines each r =
    (if each then flat_map (change_line r.0) r.1 else []) ++ harm_line r.0 (report_harm r)

-- those of all
abbrev pub reports_harm_text : Bool → List ReportValue → List ℕ
reports_harm_text each reports = flat_map (report_harm_lines each) reports

-- ---- as JSON (RFC 8259), version 2

-- the interfaces whose costs after the failure no LSA contains are added to the other members
abbrev pub with_unknown : List Data → Members → Members
with_unknown names members = put (codes "unknown_costs") (array (items_of names)) members

-- and the routes that change, if each is printed
abbrev pub with_routes : Bool → List Data → Members → Members
with_routes true routes members = put (codes "routes") (array (items_of routes)) members
with_routes false routes members = members

-- a failure, what it takes, and how much it harms
abbrev pub harmed_members : AreaFailure → Harm → List HiddenCost → Members → Members
harmed_members f h hidden members =
    with_unknown (hidden_names hidden f) (with_harm h (with_element f members))

-- the object of what a failure changes in a router's table
abbrev pub report_line_data : Bool → RouterId → List HiddenCost → ReportValue → Data
report_line_data each root hidden r =
    object (with_routes each (map (change_data root) r.1)
    (harmed_members r.0 (report_harm r) hidden (totals_members r.0 (totals_of r.1) no_members)))

-- an object on each line
abbrev pub reports_lines : Bool → RouterId → List HiddenCost → List ReportValue → List ℕ
reports_lines each root hidden reports =
    flat_map (λ r. data_line (report_line_data each root hidden r)) reports
