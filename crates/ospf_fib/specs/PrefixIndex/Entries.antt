-- What ranges answer.
use Rattle.std.specs.Prelude.{◌≡◌, ◌≤◌, ◌<◌, ℕ, List, [], get_or, length, slice_index_or}
use Rattle.ospf_graph.specs.declared.route.Route.{Route}
use Rattle.ospf_fib.specs.PrefixIndex.Ranges.{IsPlaceFor}
use Rattle.ospf_fib.specs.PrefixIndex.Sets.{AreSets, hops_of}
use Rattle.ospf_fib.specs.declared.index.entries.Entry.{Entry}
use Rattle.ospf_fib.specs.declared.index.entries.FoundRoute.{FoundRoute}
use Rattle.ospf_fib.specs.declared.index.sets.HopSets.{HopSets}

-- the route that was found
abbrev pub route_of : FoundRoute → Route
route_of found = record { prefix = found.prefix; cost = found.cost; hops = found.hops.now }

-- what the route says, whose set of hops has this number
abbrev pub IsEntryOf : Route → ℕ → Entry → Type 0
IsEntryOf route number entry =
    (entry.prefix ≡ route.prefix) × (entry.cost ≡ route.cost) × (entry.set ≡ number)

-- what the route at this place says; after the last route there is no hop
abbrev pub IsEntryAt : List Route → List ℕ → ℕ → Entry → Type 0
IsEntryAt routes numbers place entry =
    (place < length routes → (d : Route)
    → IsEntryOf (slice_index_or routes place d) (get_or numbers place 0) entry)
    × (length routes ≤ place → entry.set ≡ 0)

-- what the routes at these places say
pub record AreEntries (routes : List Route) (numbers places : List ℕ) (entries : List Entry)
    : Type 0 where
  pub same_length : length entries ≡ length places
  pub exact : (i : ℕ) (d : Entry) → i < length places
      → IsEntryAt routes numbers (get_or places i 0) (slice_index_or entries i d)

-- what the route of longest prefix that holds the address says; where none does, there is no hop
pub record IsEntryFor (routes : List Route) (sets : HopSets) (address : ℕ) (entry : Entry)
    : Type 0 where
  pub place : ℕ
  pub answers : IsPlaceFor routes address place
  pub stand : AreSets sets
  pub within : entry.set < length sets.sets.items
  pub prefix_is : place < length routes → (d : Route)
      → entry.prefix ≡ (slice_index_or routes place d).prefix
  pub cost_is : place < length routes → (d : Route)
      → entry.cost ≡ (slice_index_or routes place d).cost
  pub hops_are : place < length routes → (d : Route)
      → hops_of sets entry.set ≡ (slice_index_or routes place d).hops
  pub none : length routes ≤ place → hops_of sets entry.set ≡ []
