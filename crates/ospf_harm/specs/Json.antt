-- What failures change as values of JSON (RFC 8259).
use Rattle.std.specs.Prelude.{◌∷◌, [], ℕ, List, Bool, codes, if◌then◌else◌, map}
use Rattle.serde_json.specs.Data.{Data, Members, array, object, put, member, no_members}
use Rattle.serde_json.specs.View.{items_of}
use Rattle.ospf_base.specs.declared.ids.RouterId.{RouterId}
use Rattle.ospf_table.specs.Changes.{totals_of}
use Rattle.ospf_table.specs.Objects.{change_data, counted_members, objects_line}
use Rattle.ospf_table.specs.declared.totals.Totals.{Totals}
use Rattle.ospf_whatif.specs.declared.failure.AreaFailure.{AreaFailure}
use Rattle.ospf_harm.specs.declared.hidden.HiddenCost.{HiddenCost}
use Rattle.ospf_harm.specs.Reports.{ReportValue}
use Rattle.ospf_harm.specs.Warnings.{hidden_names}

-- the routes that change, if each is printed
abbrev pub routes_member : Bool → List Data → Members → Members
routes_member each routes rest =
    if each then member (codes "routes") (array (items_of routes)) rest else rest

-- the interfaces whose cost after the failure no LSA contains, where there are any
abbrev pub hidden_member : List Data → Members
hidden_member [] = no_members
hidden_member (name ∷ names) =
    member (codes "unknown_costs") (array (items_of (name ∷ names))) no_members

-- they are added to the other members
abbrev pub with_hidden : List Data → Members → Members
with_hidden [] members = members
with_hidden (name ∷ names) members =
    put (codes "unknown_costs") (array (items_of (name ∷ names))) members

-- what a failure changes in the table of the root
abbrev pub totals_members : AreaFailure → Totals → Members → Members
totals_members failure t rest = counted_members failure t.cut t.gone t.cost t.hops rest

-- and the routes, if each is printed
abbrev pub report_members : Bool → RouterId → ReportValue → Members → Members
report_members each root r rest =
    totals_members r.0 (totals_of r.1) (routes_member each (map (change_data root) r.1) rest)

-- the object of what a failure changes in a router's table
abbrev pub report_data : Bool → RouterId → List HiddenCost → ReportValue → Data
report_data each root hidden r =
    object (report_members each root r (hidden_member (hidden_names hidden r.0)))

-- the line of all of them
abbrev pub reports_json : Bool → RouterId → List HiddenCost → List ReportValue → List ℕ
reports_json each root hidden reports = objects_line (map (report_data each root hidden) reports)
