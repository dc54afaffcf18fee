-- The sweep over the routes of a table, from the first address to the last.
use Rattle.std.specs.Prelude.{◌≡◌, ◌+◌, ◌-◌, ◌<◌, ◌≤◌, ◌⊎◌, ◌++◌, ◌∷◌, [], ℕ, List, Contains, get_or, map, length, take}
use Rattle.ospf_graph.specs.declared.route.Route.{Route}
use Rattle.ospf_fib.specs.PrefixIndex.Ranges.{AreStartsRising, end_of}

-- blocks of addresses by number: how many, where each begins and ends, and how long its prefix is
pub record Blocks : Type 0 where
  pub count : ℕ
  pub first : ℕ → ℕ
  pub end : ℕ → ℕ
  pub long : ℕ → ℕ

-- the blocks of the routes' prefixes
abbrev pub blocks_of : List Route → Blocks
blocks_of routes = record {
  count = length routes;
  first = λ k. get_or (map (λ r. r.prefix.address.0) routes) k 0;
  end = λ k. get_or (map (λ r. end_of r.prefix) routes) k 0;
  long = λ k. get_or (map (λ r. r.prefix.length) routes) k 0;
}

-- the block has the address
abbrev pub BlockHas : Blocks → ℕ → ℕ → Type 0
BlockHas b k address = (b.first k ≤ address) × (address < b.end k)

-- the number is that of the longest block that has the address, or of no block where none has it
abbrev pub IsLongest : Blocks → ℕ → ℕ → Type 0
IsLongest b address t =
    (t < b.count
    → BlockHas b t address × ((k : ℕ) → k < b.count → BlockHas b k address → b.long k ≤ b.long t))
    × (b.count ≤ t → (k : ℕ) → k < b.count → BlockHas b k address → ⊥)

-- the last start, which is where the sweep is
abbrev pub here : List ℕ → ℕ
here starts = get_or starts (length starts - 1) 0

-- the block that was opened last, or the number of all where none is open
abbrev pub top : ℕ → List ℕ → ℕ
top count opened = get_or opened (length opened - 1) count

-- a range begins where the last one does, in the place of that
abbrev pub IsRenamed : List ℕ → List ℕ → ℕ → ℕ → List ℕ → List ℕ → Type 0
IsRenamed starts places start place next_starts next_places =
    (0 < length starts) × (here starts ≡ start) × (next_starts ≡ starts)
    × (next_places ≡ take (length places - 1) places ++ place ∷ [])

-- a range begins after the last one
abbrev pub IsRangeAdded : List ℕ → List ℕ → ℕ → ℕ → List ℕ → List ℕ → Type 0
IsRangeAdded starts places start place next_starts next_places =
    (0 < length starts → here starts ≡ start → ⊥) × (next_starts ≡ starts ++ start ∷ [])
    × (next_places ≡ places ++ place ∷ [])

-- a range begins, and the last one is left out where it has no address
abbrev pub IsRangeBegun : List ℕ → List ℕ → ℕ → ℕ → List ℕ → List ℕ → Type 0
IsRangeBegun starts places start place next_starts next_places =
    IsRenamed starts places start place next_starts next_places
    ⊎ IsRangeAdded starts places start place next_starts next_places

-- this many blocks were begun. Those that are open are nested, all others have ended, and
-- each range but the last has its answer
pub record IsSwept (b : Blocks) (begun : ℕ) (opened starts places : List ℕ) : Type 0 where
  pub within : begun ≤ b.count
  pub same_length : length places ≡ length starts
  pub some : 0 < length starts
  pub from_first : get_or starts 0 0 ≡ 0
  pub in_order : AreStartsRising starts
  pub exact : (i address : ℕ) → i + 1 < length starts → get_or starts i 0 ≤ address
      → address < get_or starts (i + 1) 0 → IsLongest b address (get_or places i 0)
  pub current : get_or places (length starts - 1) 0 ≡ top b.count opened
  pub open_here : (s : ℕ) → s < length opened
      → (get_or opened s 0 < begun) × (b.first (get_or opened s 0) ≤ here starts)
      × (here starts ≤ b.end (get_or opened s 0))
  pub nested : (s t : ℕ) → s < t → t < length opened
      → (b.end (get_or opened t 0) ≤ b.end (get_or opened s 0))
      × (b.long (get_or opened s 0) < b.long (get_or opened t 0))
  pub ended : (k : ℕ) → k < begun → Contains opened k ⊎ (b.end k ≤ here starts)
  pub ahead : (k : ℕ) → begun ≤ k → k < b.count → here starts ≤ b.first k
