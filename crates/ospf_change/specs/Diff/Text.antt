-- The lines of a difference.
use Rattle.std.specs.Prelude.{ℕ, List, ◌++◌, codes, decimal}
use Rattle.ospf_base.specs.Text.{number_text, prefix_text}
use Rattle.ospf_base.specs.declared.ids.RouterId.{RouterId}
use Rattle.ospf_graph.specs.Text.{hops_text}
use Rattle.ospf_graph.specs.declared.route.Route.{Route}
use Rattle.ospf_change.specs.declared.diff.difference.RouteDifference.{RouteDifference}
use Rattle.ospf_change.specs.declared.diff.difference.RouteDifference.TheVariants.{Gained, Longer, Lost, Rerouted, Shorter}

-- what a route costs and over which hops it leads
abbrev pub price_text : Route → List ℕ
price_text r = codes "cost " ++ decimal r.cost ++ codes " via " ++ hops_text r.hops

-- the kind, the prefix, and the way there, or the old way and the new one
abbrev pub difference_text : RouteDifference → List ℕ
difference_text (Lost old) = codes "lost " ++ prefix_text old.prefix ++ codes " " ++ price_text old
difference_text (Gained new) =
    codes "gained " ++ prefix_text new.prefix ++ codes " " ++ price_text new
difference_text (Longer old new) =
    codes "longer " ++ prefix_text old.prefix ++ codes " " ++ price_text old ++ codes " -> "
    ++ price_text new
difference_text (Shorter old new) =
    codes "shorter " ++ prefix_text old.prefix ++ codes " " ++ price_text old ++ codes " -> "
    ++ price_text new
difference_text (Rerouted old new) =
    codes "rerouted " ++ prefix_text old.prefix ++ codes " " ++ price_text old ++ codes " -> via "
    ++ hops_text new.hops

-- the line of it, which begins with the router whose tables differ
abbrev pub difference_line : RouterId → RouteDifference → List ℕ
difference_line router d = number_text router.0 ++ codes " " ++ difference_text d ++ codes "\n"
