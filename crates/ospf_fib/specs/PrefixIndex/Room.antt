-- The state of a sweep, and its memory.
use Rattle.std.specs.Prelude.{◌≡◌, ◌≤◌, ◌+◌, ◌*◌, ℕ, List, [], length, sum_by, vec_len, vec_capacity}
use Rattle.ospf_graph.specs.declared.route.Route.{Route}
use Rattle.ospf_spf.specs.declared.changes.Change.{Change}
use Rattle.ospf_spf.specs.declared.changes.Change.TheVariants.{Put, Gone}
use Rattle.ospf_fib.specs.PrefixIndex.Sets.{IsBegunFor}
use Rattle.ospf_fib.specs.PrefixIndex.Sweep.{IsSwept, blocks_of}
use Rattle.ospf_fib.specs.declared.index.index.IndexRoom.{IndexRoom}
use Rattle.ospf_fib.specs.declared.index.sweep.Sweep.{Sweep}

-- this many of the routes were begun
abbrev pub IsSweptTo : List Route → ℕ → Sweep → Type 0
IsSweptTo routes begun sweep =
    IsSwept (blocks_of routes) begun sweep.opened.items sweep.ranges.starts.items
    sweep.ranges.places.items

-- there is room for all ranges that this many routes and those that are open can still begin, and
-- they are at most this many in all
pub record HasRoom (most : ℕ) (sweep : Sweep) (left : ℕ) : Type 0 where
  pub few : vec_len sweep.ranges.places + vec_len sweep.opened + 2 * left ≤ most
  pub starts : vec_len sweep.ranges.starts + vec_len sweep.opened + 2 * left
      ≤ vec_capacity sweep.ranges.starts
  pub places : vec_len sweep.ranges.places + vec_len sweep.opened + 2 * left
      ≤ vec_capacity sweep.ranges.places
  pub opened : vec_len sweep.opened + left ≤ vec_capacity sweep.opened

-- nothing has begun, and there is room for this many routes
pub record IsRoomFor (count : ℕ) (sweep : Sweep) : Type 0 where
  pub no_start : sweep.ranges.starts.items ≡ []
  pub no_place : sweep.ranges.places.items ≡ []
  pub none_open : sweep.opened.items ≡ []
  pub starts : 2 * count + 1 ≤ vec_capacity sweep.ranges.starts
  pub places : 2 * count + 1 ≤ vec_capacity sweep.ranges.places
  pub opened : count ≤ vec_capacity sweep.opened

-- how many hops the routes have in all
abbrev pub hops_in : List Route → ℕ
hops_in routes = sum_by (λ r. length r.hops) routes

-- how many hops a change puts
abbrev pub hops_put : Change → ℕ
hops_put (Put route) = length route.hops
hops_put (Gone _) = 0

-- nothing has begun, and there is room for the index of this many routes,
-- which have this many hops in all
pub record HasIndexRoom (count hops : ℕ) (room : IndexRoom) : Type 0 where
  pub sweep : IsRoomFor count room.sweep
  pub none : room.directory.items ≡ []
  pub blocks : 65537 ≤ vec_capacity room.directory
  pub numbering : IsBegunFor count hops room.numbering
  pub no_number : room.numbers.items ≡ []
  pub numbers : count ≤ vec_capacity room.numbers
  pub no_entry : room.entries.items ≡ []
  pub entries : 2 * count + 1 ≤ vec_capacity room.entries
