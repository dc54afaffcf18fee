-- Failures by the harm that they do: the order, the lines of text, and version 2 of the JSON.
use Rattle.std.specs.Prelude.{◌++◌, ℕ, Bool, List, codes, decimal, flat_map, string_bytes}
use Rattle.std.specs.declared.cmp.Ordering.{Ordering}
use Rattle.std.specs.declared.cmp.Reverse.{Reverse}
use Rattle.serde_json.specs.Data.{Data, Members, number, object, put, unsigned, no_members}
use Rattle.ospf_table.specs.Objects.{counted_members, data_line}
use Rattle.ospf_whatif.specs.Name.{area_failure_text}
use Rattle.ospf_whatif.specs.declared.failure.AreaFailure.{AreaFailure}
use Rattle.ospf_harm.specs.declared.hidden.HiddenCost.{HiddenCost}
use Rattle.ospf_harm.specs.Harm.{harm_text}
use Rattle.ospf_failures.specs.Json.{sight_data}
use Rattle.ospf_failures.specs.declared.overall.Overall.{Overall}
use Rattle.ospf_table.specs.declared.sums.Sums.{Sums}
use Rattle.ospf_harm.specs.HarmLines.{harm_cmp, harm_rank, harmed_members, with_routes}

-- the order of what is reported over all routers
abbrev pub overall_harm_cmp : Overall → Overall → Ordering
overall_harm_cmp a b = harm_cmp a.harm b.harm a.failure b.failure

-- the numbers that one of these is put in order by
abbrev pub overall_harm_rank : Overall → Reverse (List ℕ) × List ℕ
overall_harm_rank o = harm_rank o.harm o.failure

-- over all routers, and at how many of them something changes
abbrev pub overall_harm_line : Overall → List ℕ
overall_harm_line o =
    area_failure_text o.failure ++ codes " " ++ harm_text o.harm ++ codes " routers "
    ++ decimal o.sums.routers ++ codes "\n"

-- the lines of all, each behind those of the routes that are printed
abbrev pub overalls_harm_text : List Overall → List ℕ
overalls_harm_text overalls = flat_map (λ o. string_bytes o.lines ++ overall_harm_line o) overalls

-- at how many routers something changes
abbrev pub with_affected : Sums → Members → Members
with_affected s members = put (codes "routers_affected") (number (unsigned s.routers)) members

-- how many routes a failure changes in the tables of all routers
abbrev pub summed_members : AreaFailure → Sums → Members
summed_members f s = counted_members f s.cut s.gone s.cost s.hops no_members

-- the object of what a failure changes in all tables
abbrev pub overall_line_data : Bool → List HiddenCost → Overall → Data
overall_line_data each hidden o =
    object (with_routes each (flat_map sight_data o.sights.items)
    (with_affected o.sums
    (harmed_members o.failure o.harm hidden (summed_members o.failure o.sums))))

-- over all routers
abbrev pub overalls_lines : Bool → List HiddenCost → List Overall → List ℕ
overalls_lines each hidden overalls =
    flat_map (λ o. data_line (overall_line_data each hidden o)) overalls
