-- Sets of hops within one list.
use Rattle.std.specs.Prelude.{◌≡◌, ◌≤◌, ◌<◌, ◌+◌, ℕ, List, [], All, drop, get_or, length, map, take, vec_capacity, vec_len}
use Rattle.ospf_graph.specs.declared.hop.NextHop.{NextHop}
use Rattle.ospf_graph.specs.declared.route.Route.{Route}
use Rattle.ospf_fib.specs.declared.index.numbering.SetNumbers.{SetNumbers}
use Rattle.ospf_fib.specs.declared.index.sets.HopSets.{HopSets}

-- each set lies within the list of all hops
abbrev pub AreSets : HopSets → Type 0
AreSets sets = All (λ s. s.first + s.count ≤ length sets.hops.items) sets.sets.items

-- the hops of each set
abbrev pub lists_of : HopSets → List (List NextHop)
lists_of sets = map (λ s. take s.count (drop s.first sets.hops.items)) sets.sets.items

-- the hops of the set of this number
abbrev pub hops_of : HopSets → ℕ → List NextHop
hops_of sets k = get_or (lists_of sets) k []

-- the sets of routes' hops, and for each route the number of its set
pub record AreNumbersOf (routes : List Route) (sets : HopSets) (numbers : List ℕ) : Type 0 where
  pub stand : AreSets sets
  pub some : 0 < length sets.sets.items
  pub none : hops_of sets 0 ≡ []
  pub same_length : length numbers ≡ length routes
  pub within : (k : ℕ) → k < length routes → get_or numbers k 0 < length sets.sets.items
  pub exact : (k : ℕ) (d : Route) → k < length routes
      → hops_of sets (get_or numbers k 0) ≡ (get_or routes k d).hops

-- each chain leads from its last set to those of lower numbers
pub record AreChained (n : SetNumbers) : Type 0 where
  pub stand : AreSets n.sets
  pub as_many : length n.links.items ≡ length n.sets.sets.items
  pub some : 0 < length n.chains.items
  pub chains : (k : ℕ) → k < length n.chains.items
      → get_or n.chains.items k 0 ≤ length n.sets.sets.items
  pub links : (k : ℕ) → k < length n.links.items → get_or n.links.items k 0 ≤ k

-- there is only the set without hops, and room for those of this many routes,
-- which have this many hops in all
pub record IsBegunFor (routes hops : ℕ) (n : SetNumbers) : Type 0 where
  pub chained : AreChained n
  pub none : hops_of n.sets 0 ≡ []
  pub one : vec_len n.sets.sets ≡ 1
  pub no_hop : vec_len n.sets.hops ≡ 0
  pub room_sets : routes + 1 ≤ vec_capacity n.sets.sets
  pub room_hops : hops ≤ vec_capacity n.sets.hops
  pub room_links : routes + 1 ≤ vec_capacity n.links

-- there is at most one set more, of at most this many hops, and those before are the same
pub record IsGrown (hops : ℕ) (old new : SetNumbers) : Type 0 where
  pub more : vec_len old.sets.sets ≤ vec_len new.sets.sets
  pub one_more : vec_len new.sets.sets ≤ vec_len old.sets.sets + 1
  pub hops_more : vec_len new.sets.hops ≤ vec_len old.sets.hops + hops
  pub same : (k : ℕ) → k < vec_len old.sets.sets → hops_of new.sets k ≡ hops_of old.sets k
  pub room_sets : vec_capacity old.sets.sets ≤ vec_capacity new.sets.sets
  pub room_hops : vec_capacity old.sets.hops ≤ vec_capacity new.sets.hops
  pub room_links : vec_capacity old.links ≤ vec_capacity new.links
