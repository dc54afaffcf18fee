-- What differs between two routing tables (RFC 2328, section 11).
use Rattle.std.specs.Prelude.{◌≡◌, ◌<◌, ◌⊎◌, List, All, AllPairs, Contains, ⊤}
use Rattle.ospf_base.specs.Prefixes.{IsPrefixBefore}
use Rattle.ospf_base.specs.declared.prefix.Prefix.{Prefix}
use Rattle.ospf_graph.specs.declared.route.Route.{Route}
use Rattle.ospf_spf.specs.Changes.{IsGone, IsNewRoute, Reaches}
use Rattle.ospf_spf.specs.declared.changes.Change.{Change}
use Rattle.ospf_spf.specs.declared.changes.Change.TheVariants.{Gone, Put}
use Rattle.ospf_change.specs.declared.diff.difference.RouteDifference.{RouteDifference}
use Rattle.ospf_change.specs.declared.diff.difference.RouteDifference.TheVariants.{Gained, Longer, Lost, Rerouted, Shorter}

-- the prefix at which the tables differ
abbrev pub prefix_at : RouteDifference → Prefix
prefix_at (Lost old) = old.prefix
prefix_at (Gained new) = new.prefix
prefix_at (Longer old new) = new.prefix
prefix_at (Shorter old new) = new.prefix
prefix_at (Rerouted old new) = new.prefix

-- the routes of two tables to one prefix
pub record AreRoutesToOne (before after : List Route) (old new : Route) : Type 0 where
  pub had : Contains before old
  pub has : Contains after new
  pub one_prefix : old.prefix ≡ new.prefix

-- what differs at a prefix: one table alone reaches it; or the second at another cost; or at the
-- same cost by other next hops
abbrev pub IsDifference : List Route → List Route → RouteDifference → Type 0
IsDifference before after (Lost old) = Contains before old × (Reaches after old.prefix → ⊥)
IsDifference before after (Gained new) = Contains after new × (Reaches before new.prefix → ⊥)
IsDifference before after (Longer old new) =
    AreRoutesToOne before after old new × (old.cost < new.cost)
IsDifference before after (Shorter old new) =
    AreRoutesToOne before after old new × (new.cost < old.cost)
IsDifference before after (Rerouted old new) =
    AreRoutesToOne before after old new × (old.cost ≡ new.cost) × (old.hops ≡ new.hops → ⊥)

-- the order of differences: that of their prefixes
abbrev pub IsDifferenceBefore : RouteDifference → RouteDifference → Type 0
IsDifferenceBefore d e = IsPrefixBefore (prefix_at d) (prefix_at e)

-- one of the differences is at the prefix
abbrev pub HasDifferenceAt : List RouteDifference → Prefix → Type 0
HasDifferenceAt found prefix =
    (d : RouteDifference) × Contains found d × (prefix_at d ≡ prefix)

-- what differs between two tables, in the order of prefixes and so each prefix once: the prefixes
-- whose route is another one in the second table or is missing there, and no others
pub record AreDifferences (before after : List Route) (found : List RouteDifference)
    : Type 0 where
  pub in_order : AllPairs IsDifferenceBefore found
  pub sound : All (IsDifference before after) found
  pub new_routes : (route : Route) → IsNewRoute before after route
      → HasDifferenceAt found route.prefix
  pub lost_prefixes : (prefix : Prefix) → IsGone before after prefix
      → HasDifferenceAt found prefix

-- ---- on the way

-- the prefix of what is gone was reached
abbrev pub IsOfTable : List Route → Change → Type 0
IsOfTable before (Gone prefix) = Reaches before prefix
IsOfTable before (Put new) = ⊤

-- what two routes to one prefix differ in, if they are not the same
abbrev pub IsRouteTurn : Route → Route → RouteDifference → Type 0
IsRouteTurn old new d =
    ((old.cost < new.cost) × (d ≡ Longer old new))
    ⊎ ((new.cost < old.cost) × (d ≡ Shorter old new))
    ⊎ ((old.cost ≡ new.cost) × (d ≡ Rerouted old new))

-- what a change makes of the route to its prefix, if the table before has one
abbrev pub IsDifferenceBy : List Route → Change → RouteDifference → Type 0
IsDifferenceBy before (Gone prefix) d =
    (old : Route) × Contains before old × (old.prefix ≡ prefix) × (d ≡ Lost old)
IsDifferenceBy before (Put route) d =
    ((Reaches before route.prefix → ⊥) × (d ≡ Gained route))
    ⊎ ((old : Route) × Contains before old × (old.prefix ≡ route.prefix) × IsRouteTurn old route d)
