-- Changes that put routes in the places of others to the same prefixes, and the index
-- after them (RFC 2328, section 11).
use Rattle.std.specs.Prelude.{◌≡◌, ◌≤◌, ◌<◌, ◌+◌, ◌/◌, ◌^◌, ◌++◌, ◌∷◌, [], ℕ, List, All, get_or, length, slice_index_or, sum_by, vec_capacity, vec_len}
use Rattle.ospf_base.specs.declared.prefix.Prefix.{Prefix}
use Rattle.ospf_base.specs.Prefixes.{IsPrefixBefore}
use Rattle.ospf_graph.specs.declared.route.Route.{Route}
use Rattle.ospf_spf.specs.Changes.{Reaches}
use Rattle.ospf_spf.specs.declared.changes.Change.{Change}
use Rattle.ospf_spf.specs.declared.changes.Change.TheVariants.{Put, Gone}
use Rattle.ospf_fib.specs.PrefixIndex.Ranges.{end_of}
use Rattle.ospf_fib.specs.PrefixIndex.Room.{hops_put}
use Rattle.ospf_fib.specs.PrefixIndex.Sets.{AreSets, lists_of}
use Rattle.ospf_fib.specs.declared.index.entries.Entry.{Entry}
use Rattle.ospf_fib.specs.declared.index.index.Index.{Index}
use Rattle.ospf_fib.specs.declared.index.sets.HopSets.{HopSets}

-- the change puts a route, and the table has one to its prefix
abbrev pub Replaces : List Route → Change → Type 0
Replaces routes (Put route) = Reaches routes route.prefix
Replaces routes (Gone _) = ⊥

-- the changes are few compared to the routes: an eighth of them and 8 at most
abbrev pub AreFew : List Change → List Route → Type 0
AreFew changes routes = length changes ≤ length routes / 8 + 8

-- there is room for one set more for each change, and for the hops that the changes put
pub record HasSetRoom (changes : List Change) (all : HopSets) : Type 0 where
  pub sets : vec_len all.sets + length changes ≤ vec_capacity all.sets
  pub hops : vec_len all.hops + sum_by hops_put changes ≤ vec_capacity all.hops

-- there is one set more, with the hops of the route, and no room is lost
pub record AreSetsLonger (old : HopSets) (route : Route) (new : HopSets) : Type 0 where
  pub sets : vec_len new.sets ≡ vec_len old.sets + 1
  pub hops : vec_len new.hops ≡ vec_len old.hops + length route.hops
  pub room_sets : vec_capacity old.sets ≤ vec_capacity new.sets
  pub room_hops : vec_capacity old.hops ≤ vec_capacity new.hops

-- this many routes are before the prefix, and none of the others is
pub record AreRoutesBefore (routes : List Route) (prefix : Prefix) (count : ℕ) : Type 0 where
  pub before : (k : ℕ) (d : Route) → k < count → k < length routes
      → IsPrefixBefore (slice_index_or routes k d).prefix prefix
  pub behind : (k : ℕ) (d : Route) → count ≤ k → k < length routes
      → IsPrefixBefore (slice_index_or routes k d).prefix prefix → ⊥

-- this many ranges begin before the address
pub record AreBefore (starts : List ℕ) (address count : ℕ) : Type 0 where
  pub within : count ≤ length starts
  pub before : (i : ℕ) → i < count → get_or starts i 0 < address
  pub behind : (i : ℕ) → count ≤ i → i < length starts → address ≤ get_or starts i 0

-- what lookups answer for a route whose set of hops has this number
abbrev pub answered_entry : Route → ℕ → Entry
answered_entry route number = record { prefix = route.prefix; cost = route.cost; set = number }

-- of these ranges, each that a route to the entry's prefix answered is now answered by the entry,
-- and a range that no such route answered is unchanged
pub record AreAnsweredAnew (old new : List Entry) (from to : ℕ) (entry : Entry) : Type 0 where
  pub same_length : length new ≡ length old
  pub anew : (i : ℕ) (d : Entry) → from ≤ i → i < to
      → (slice_index_or old i d).prefix ≡ entry.prefix → 0 < (slice_index_or old i d).set
      → slice_index_or new i d ≡ entry
  pub others : (i : ℕ) (d : Entry)
      → ((slice_index_or old i d).prefix ≡ entry.prefix → (slice_index_or old i d).set ≡ 0)
      → slice_index_or new i d ≡ slice_index_or old i d

-- the index with a route in the place of the one to its prefix: its hops come after all other
-- sets, and the ranges within its prefix that the route to this prefix answered are answered by it
pub record IsRoutePut (old : Index) (route : Route) (new : Index) : Type 0 where
  pub addresses : All (λ start. start < 2 ^ 32) old.starts.items
  pub starts : new.starts.items ≡ old.starts.items
  pub directory : new.directory.items ≡ old.directory.items
  pub stand : AreSets new.sets
  pub lists : lists_of new.sets ≡ lists_of old.sets ++ route.hops ∷ []
  pub from : ℕ
  pub to : ℕ
  pub first : AreBefore old.starts.items route.prefix.address.0 from
  pub last : AreBefore old.starts.items (end_of route.prefix) to
  pub entries : AreAnsweredAnew old.entries.items new.entries.items from to
      (answered_entry route (length old.sets.sets.items))
