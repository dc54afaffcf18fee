-- What is printed of a failure: a line for each route that it changes,
-- and a line of how many these are.
use Rattle.std.specs.Prelude.{ℕ, Bool, true, false, List, [], ◌++◌, codes, count_by, decimal, flat_map, if◌then◌else◌}
use Rattle.ospf_base.specs.Text.{prefix_text}
use Rattle.ospf_graph.specs.Text.{hops_text}
use Rattle.ospf_graph.specs.declared.route.Route.{Route}
use Rattle.ospf_whatif.specs.Name.{area_failure_text}
use Rattle.ospf_whatif.specs.declared.failure.AreaFailure.{AreaFailure}
use Rattle.ospf_whatif.specs.declared.effect.RouteChange.{RouteChange}
use Rattle.ospf_whatif.specs.declared.effect.Loss.{Loss}
use Rattle.ospf_whatif.specs.declared.effect.Loss.TheVariants.{Gone, Cut, Dearer, Moved}
use Rattle.ospf_table.specs.declared.totals.Totals.{Totals}

-- ---- a route that a failure changes

-- the costs of before and after
abbrev pub costs_text : ℕ → ℕ → List ℕ
costs_text before after = decimal before ++ codes ">" ++ decimal after

-- the prefix that is lost; or the prefix with the costs of before and after, or with
-- its cost, and the hops of after
abbrev pub loss_line : Route → Loss → List ℕ
loss_line before Gone = codes " gone " ++ prefix_text before.prefix ++ codes "\n"
loss_line before Cut = codes " cut " ++ prefix_text before.prefix ++ codes "\n"
loss_line before (Dearer after) =
    codes " cost " ++ prefix_text before.prefix ++ codes " " ++ costs_text before.cost after.cost
    ++ codes " " ++ hops_text after.hops ++ codes "\n"
loss_line before (Moved after) =
    codes " hops " ++ prefix_text before.prefix ++ codes " " ++ decimal after.cost ++ codes " "
    ++ hops_text after.hops ++ codes "\n"

-- the failure, and what it does to the route
abbrev pub change_line : AreaFailure → RouteChange → List ℕ
change_line failure change = area_failure_text failure ++ loss_line change.before change.loss

-- ---- how many

-- the prefix is no longer reached, though it is still advertised
abbrev pub is_cut : Loss → Bool
is_cut Cut = true
is_cut _ = false

-- the prefix is no longer reached, and no longer advertised
abbrev pub is_gone : Loss → Bool
is_gone Gone = true
is_gone _ = false

-- the prefix costs more
abbrev pub is_dearer : Loss → Bool
is_dearer (Dearer after) = true
is_dearer _ = false

-- the prefix costs the same over other next hops
abbrev pub is_moved : Loss → Bool
is_moved (Moved after) = true
is_moved _ = false

-- how many of the changes are such
abbrev pub count_of : (Loss → Bool) → List RouteChange → ℕ
count_of is changes = count_by (λ change. is change.loss) changes

-- the prefixes that are cut off, those that are gone, those that cost more, and those
-- of other hops at the same cost
abbrev pub totals_of : List RouteChange → Totals
totals_of changes =
    record {
      cut = count_of is_cut changes;
      gone = count_of is_gone changes;
      cost = count_of is_dearer changes;
      hops = count_of is_moved changes;
    }

-- how many changes of each sort there are
abbrev pub totals_text : Totals → List ℕ
totals_text t =
    codes "cut " ++ decimal t.cut ++ codes " gone " ++ decimal t.gone ++ codes " cost "
    ++ decimal t.cost ++ codes " hops " ++ decimal t.hops

-- the line of a failure with how many changes of each sort there are
abbrev pub totals_line : AreaFailure → Totals → List ℕ
totals_line failure t = area_failure_text failure ++ codes " " ++ totals_text t ++ codes "\n"

-- ---- all of a failure

-- a line for each change if that is wanted, and the totals after them
abbrev pub failure_lines : Bool → AreaFailure → List RouteChange → List ℕ
failure_lines each failure changes =
    (if each then flat_map (change_line failure) changes else [])
    ++ totals_line failure (totals_of changes)
