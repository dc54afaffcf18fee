-- Ranges of addresses: each begins at its start and ends before the next one's.
use Rattle.std.specs.Prelude.{◌≡◌, ◌+◌, ◌-◌, ◌<◌, ◌≤◌, ◌^◌, ◌*◌, ℕ, List, get_or, length}
use Rattle.ospf_base.specs.Prefixes.{Holds}
use Rattle.ospf_base.specs.declared.prefix.Prefix.{Prefix}
use Rattle.ospf_graph.specs.declared.route.Route.{Route}
use Rattle.ospf_spf.specs.Table.{IsBestPlace}

-- the first address after those of a prefix
abbrev pub end_of : Prefix → ℕ
end_of prefix = prefix.address.0 + 2 ^ (32 - prefix.length)

-- the place of the route of longest prefix that holds the address, or a place after the
-- last route where no route does
abbrev pub IsPlaceFor : List Route → ℕ → ℕ → Type 0
IsPlaceFor routes address place =
    (place < length routes → IsBestPlace routes address place)
    × (length routes ≤ place → (k : ℕ) (d : Route) → k < length routes
    → Holds (get_or routes k d).prefix address → ⊥)

-- each range begins after the one before it
abbrev pub AreStartsRising : List ℕ → Type 0
AreStartsRising starts =
    (i j : ℕ) → i < j → j < length starts → get_or starts i 0 < get_or starts j 0

-- the address lies in this range
abbrev pub IsInRange : List ℕ → ℕ → ℕ → Type 0
IsInRange starts i address =
    (get_or starts i 0 ≤ address) × (i + 1 < length starts → address < get_or starts (i + 1) 0)

-- the ranges begin at the first address, one after another, and the route at its place is the
-- answer of all addresses of each
pub record HasRanges (routes : List Route) (starts places : List ℕ) : Type 0 where
  pub same_length : length places ≡ length starts
  pub some : 0 < length starts
  pub from_first : get_or starts 0 0 ≡ 0
  pub in_order : AreStartsRising starts
  pub exact : (i address : ℕ) → i < length starts → address < 2 ^ 32 → IsInRange starts i address
      → IsPlaceFor routes address (get_or places i 0)

-- the first addresses of the blocks of a directory, by the first 16 bits,
-- and the first one after the last block
abbrev pub block_start : ℕ → ℕ
block_start block = block * 65536

-- each block's first address lies in the range that the directory names
pub record IsDirectory (starts directory : List ℕ) : Type 0 where
  pub all : length directory ≡ 65537
  pub within : (block : ℕ) → block ≤ 65536 → get_or directory block 0 < length starts
  pub exact : (block : ℕ) → block ≤ 65536
      → IsInRange starts (get_or directory block 0) (block_start block)
