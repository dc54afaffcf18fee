-- What failures change as JSON holds no float.
use Rattle.std.proofs.Common.{◌≡◌, ◌+◌, Bool, true, false, List, [], ◌∷◌, map, refl}
use Rattle.std.specs.Prelude.{◌++◌, ◌||◌, codes, flat_map}
use Rattle.serde_json.specs.Data.{Data, Members, member, no_members, number, unsigned}
use Rattle.serde_json.specs.View.{items_of}
use Rattle.serde_json.specs.Written.{has_float, items_have_float}
use Rattle.ospf_table.proofs.FloatLemmas.{change_none, counted_none, items_none}
use Rattle.ospf_table.specs.Objects.{change_data}
use Rattle.ospf_harm.proofs.ElementLemmas.{put_none}
use Rattle.ospf_harm.specs.HarmLines.{harmed_members}
use Rattle.ospf_failures.specs.HarmLines.{overall_line_data, summed_members, with_affected}
use Rattle.ospf_harm.specs.Json.{hidden_member, routes_member}
use Rattle.ospf_failures.specs.Json.{overall_data, sight_data}
use Rattle.ospf_failures.specs.Sights.{SightValue}
use Rattle.ospf_harm.specs.Warnings.{hidden_names}
use Rattle.ospf_harm.specs.declared.hidden.HiddenCost.{HiddenCost}
use Rattle.ospf_failures.specs.declared.overall.Overall.{Overall}
use Rattle.ospf_harm.proofs.JsonLemmas.{member_none, hidden_none, harmed_none, routed_none}

-- an array behind another
both_none : (ds es : List Data) → items_have_float (items_of ds) ≡ false → items_have_float (items_of es) ≡ false → items_have_float (items_of (ds ++ es)) ≡ false
both_none [] es h k = k
both_none (d ∷ ds) es h k = go (has_float d) (items_have_float (items_of ds)) h (both_none ds es)
  where
    go : (b c : Bool) → (b || c) ≡ false → (c ≡ false → items_have_float (items_of es) ≡ false → items_have_float (items_of (ds ++ es)) ≡ false)
        → (b || items_have_float (items_of (ds ++ es))) ≡ false
    go true c h rec = cc
    go false c h rec = rec h k

sights_none : (sights : List SightValue) → items_have_float (items_of (flat_map sight_data sights)) ≡ false
sights_none [] = refl
sights_none (s ∷ sights) = both_none (sight_data s) (flat_map sight_data sights) (items_none (change_data s.0) (change_none s.0) s.1) (sights_none sights)

overall_none : (each : Bool) (hidden : List HiddenCost) (o : Overall) → has_float (overall_data each hidden o) ≡ false
overall_none each hidden o =
    let last = hidden_member (hidden_names hidden o.failure) in
    counted_none o.failure o.sums.cut o.sums.gone o.sums.cost o.sums.hops
    (member (codes "routers") (number (unsigned o.sums.routers)) (routes_member each (flat_map sight_data o.sights.items) last))
    (member_none each (flat_map sight_data o.sights.items) last (sights_none o.sights.items) (hidden_none hidden o.failure))

pub overalls_none : (each : Bool) (hidden : List HiddenCost) (overalls : List Overall) → items_have_float (items_of (map (overall_data each hidden) overalls)) ≡ false
overalls_none each hidden overalls = items_none (overall_data each hidden) (overall_none each hidden) overalls

pub overall_line_none : (each : Bool) (hidden : List HiddenCost) (o : Overall) → has_float (overall_line_data each hidden o) ≡ false
overall_line_none each hidden o =
    let counted : Members = summed_members o.failure o.sums in
    let harmed : Members = harmed_members o.failure o.harm hidden counted in
    routed_none each (flat_map sight_data o.sights.items) (with_affected o.sums harmed) (sights_none o.sights.items)
    (put_none (codes "routers_affected") (number (unsigned o.sums.routers)) harmed refl
    (harmed_none o.failure o.harm hidden counted (counted_none o.failure o.sums.cut o.sums.gone o.sums.cost o.sums.hops no_members refl)))
