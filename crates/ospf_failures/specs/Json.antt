-- What failures change as values of JSON (RFC 8259).
use Rattle.std.specs.Prelude.{ℕ, List, Bool, codes, flat_map, map}
use Rattle.serde_json.specs.Data.{Data, Members, number, object, unsigned, member}
use Rattle.ospf_table.specs.Objects.{change_data, counted_members, objects_line}
use Rattle.ospf_whatif.specs.declared.failure.AreaFailure.{AreaFailure}
use Rattle.ospf_harm.specs.declared.hidden.HiddenCost.{HiddenCost}
use Rattle.ospf_failures.specs.Sights.{SightValue}
use Rattle.ospf_harm.specs.Warnings.{hidden_names}
use Rattle.ospf_failures.specs.declared.overall.Overall.{Overall}
use Rattle.ospf_table.specs.declared.sums.Sums.{Sums}
use Rattle.ospf_harm.specs.Json.{hidden_member, routes_member}

-- the routes that change at a router
abbrev pub sight_data : SightValue → List Data
sight_data sight = map (change_data sight.0) sight.1

-- what a failure changes in the tables of all routers, and at how many of them
abbrev pub sums_members : AreaFailure → Sums → Members → Members
sums_members failure s rest =
    counted_members failure s.cut s.gone s.cost s.hops
    (member (codes "routers") (number (unsigned s.routers)) rest)

-- and the routes, if each is printed
abbrev pub overall_members : Bool → Overall → Members → Members
overall_members each o rest =
    sums_members o.failure o.sums (routes_member each (flat_map sight_data o.sights.items) rest)

-- the object of what a failure changes in all tables
abbrev pub overall_data : Bool → List HiddenCost → Overall → Data
overall_data each hidden o =
    object (overall_members each o (hidden_member (hidden_names hidden o.failure)))

-- the line of all of them
abbrev pub overalls_json : Bool → List HiddenCost → List Overall → List ℕ
overalls_json each hidden overalls = objects_line (map (overall_data each hidden) overalls)
