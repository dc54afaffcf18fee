-- Changes that lead from one routing table to another (RFC 2328, section 11).
use Rattle.std.specs.Prelude.{◌≡◌, ◌<◌, ◌++◌, ◌==◌, ◌&&◌, ◌||◌, ℕ, Bool, List, [], ◌∷◌, All, Contains, filter, fold, length, nat_lt, slice_index_or, ⊤}
use Rattle.ospf_base.specs.declared.prefix.Prefix.{Prefix}
use Rattle.ospf_base.specs.Prefixes.{IsPrefixBefore}
use Rattle.ospf_graph.specs.declared.route.Route.{Route}
use Rattle.ospf_spf.specs.declared.changes.Change.{Change}
use Rattle.ospf_spf.specs.declared.changes.Change.TheVariants.{Put, Gone}
use Rattle.ospf_spf.specs.declared.changes.MergeStep.{MergeStep}
use Rattle.ospf_spf.specs.declared.changes.MergeStep.TheVariants.{Old, Both, New}

-- the prefix that a change is about
abbrev pub prefix_of : Change → Prefix
prefix_of (Put route) = route.prefix
prefix_of (Gone prefix) = prefix

-- the route that a change puts, if any
abbrev pub put_of : Change → List Route
put_of (Put route) = route ∷ []
put_of (Gone _) = []

-- whether the first prefix is before the second
unfoldable pub stands_before : Prefix → Prefix → Bool
stands_before p q =
    nat_lt p.address.0 q.address.0 || ((p.address.0 == q.address.0) && nat_lt p.length q.length)

-- the table after one change: what is before its prefix, its route, and what is after
unfoldable pub changed : List Route → Change → List Route
changed routes change =
    filter (λ r. stands_before r.prefix (prefix_of change)) routes
    ++ (put_of change ++ filter (λ r. stands_before (prefix_of change) r.prefix) routes)

-- the table after all changes
unfoldable pub edited : List Route → List Change → List Route
edited routes changes = fold changed routes changes

-- the order of changes: by their prefixes
abbrev pub IsChangeBefore : Change → Change → Type 0
IsChangeBefore c d = IsPrefixBefore (prefix_of c) (prefix_of d)

-- a route that is put has a next hop
abbrev pub PutsHops : Change → Type 0
PutsHops (Put route) = 0 < length route.hops
PutsHops (Gone _) = ⊤

-- the table has a route to the prefix
abbrev pub Reaches : List Route → Prefix → Type 0
Reaches routes prefix = (r : Route) × Contains routes r × (r.prefix ≡ prefix)

-- the route is in the new table and not in the old one, which has
-- another route to its prefix or none
abbrev pub IsNewRoute : List Route → List Route → Route → Type 0
IsNewRoute old new route = Contains new route × (Contains old route → ⊥)

-- the old table has a route to the prefix, and the new one has none
abbrev pub IsGone : List Route → List Route → Prefix → Type 0
IsGone old new prefix = Reaches old prefix × (Reaches new prefix → ⊥)

-- which of two prefixes is first, if they are not the same
abbrev pub StandsFirst : Prefix → Prefix → MergeStep → Type 0
StandsFirst old new Old = IsPrefixBefore old new
StandsFirst old new New = IsPrefixBefore new old
StandsFirst old new Both = old ≡ new

-- what is next in two tables, from these places on: a route of one that is before all that the
-- other has left, or a route of each to the same prefix
abbrev pub IsMergeStep : List Route → ℕ → List Route → ℕ → MergeStep → Type 0
IsMergeStep old i new j Old =
    (i < length old)
    × (j < length new → (d e : Route)
    → IsPrefixBefore (slice_index_or old i d).prefix (slice_index_or new j e).prefix)
IsMergeStep old i new j New =
    (j < length new)
    × (i < length old → (d e : Route)
    → IsPrefixBefore (slice_index_or new j e).prefix (slice_index_or old i d).prefix)
IsMergeStep old i new j Both =
    (i < length old) × (j < length new)
    × ((d e : Route) → (slice_index_or old i d).prefix ≡ (slice_index_or new j e).prefix)

-- an edit for which there is memory: its changes, and how many routes the table may have
pub record PlannedEdit : Type 0 where
  pub changes : List Change
  pub room : ℕ

-- the first routes, which are before the prefix, are moved to the end of the new table
pub record IsMoved (prefix : Prefix) (left made left_after made_after : List Route) : Type 0 where
  pub moved : List Route
  pub left_is : left ≡ moved ++ left_after
  pub made_is : made_after ≡ made ++ moved
  pub before : All (λ r. IsPrefixBefore r.prefix prefix) moved

-- then the route to the prefix is left out, and all others are after it
pub record IsParted (prefix : Prefix) (left made left_after made_after : List Route) : Type 0 where
  pub moved : List Route
  pub left_out : List Route
  pub left_is : left ≡ moved ++ (left_out ++ left_after)
  pub made_is : made_after ≡ made ++ moved
  pub before : All (λ r. IsPrefixBefore r.prefix prefix) moved
  pub same : All (λ r. r.prefix ≡ prefix) left_out
  pub behind : All (λ r. IsPrefixBefore prefix r.prefix) left_after

-- the first route that is left relates to the prefix in this way
abbrev pub FirstIs : (Prefix → Prefix → Type 0) → List Route → Prefix → Type 0
FirstIs R left prefix =
    (0 < length left) × ((d : Route) → R (slice_index_or left 0 d).prefix prefix)
