-- Laws: what is read of a router after an LSA was stored, after copies
-- went to all, and after LSAs left.
use Rattle.std.specs.Prelude.{◌≡◌, ◌&&◌, ◌⊎◌, ◌≤◌, ◌≤ℤ◌, Bool, true, false, ℕ, Option, None, Some, List, is_some, length, option_map, if◌then◌else◌}
use Rattle.std.specs.Int.{int_max}
use Rattle.std.specs.List.{AllByRecursion}
use Rattle.ospf_base.specs.Constants.{largest_lsa, max_age}
use Rattle.ospf_base.specs.declared.ids.Instance.{Instance}
use Rattle.ospf_base.specs.declared.ids.LsaKey.{LsaKey}
use Rattle.ospf_base.specs.declared.ids.RouterId.{RouterId}
use Rattle.ospf_flood.specs.Offers.{instance_with, flooded}
use Rattle.ospf_lsa.specs.Header.{header_of}
use Rattle.ospf_lsa.specs.Lsa.{key_of}
use Rattle.ospf_lsdb.specs.Database as lsdb
use Rattle.ospf_lsdb.specs.Database.{Entry, entry_from, header_at, held_of, reached_at, removed}
use Rattle.ospf_lsdb.specs.Moments.{among}
use Rattle.ospf_neighbour.specs.Lists.{key_unlisted}
use Rattle.ospf_base.specs.Keys.{same_key}
use Rattle.ospf_neighbour.specs.Machine.{is_exchanging}
use Rattle.ospf_neighbour.specs.Neighbour.{NeighbourValue}
use Rattle.ospf_area.specs.Flooding.{on_link, came_from}
use Rattle.ospf_area.specs.Laws.{AreShort, IsSpared}
use Rattle.ospf_flood.specs.declared.rule.LsaRule.{LsaRule}
use Rattle.ospf_flood.specs.declared.rule.LsaRule.TheVariants.{AcknowledgesExpired, TooSoon, Installs, BadRequest, Duplicate, Stale}
use Rattle.ospf_lsa.specs.declared.header.LsaHeader.{LsaHeader}
use Rattle.ospf_packet.specs.Meaning.{Meaning, update}
use Rattle.ospf_packet.specs.PacketOf.{packet_of}
use Rattle.ospf_area.specs.Updates.Aging.{Flushes, TickAges}
use Rattle.ospf_area.specs.Acting.{InTurn}
use Rattle.ospf_area.specs.Updates.Meets.{MeetsLsa, Stores, header_met, rule_met}
use Rattle.ospf_area.specs.Updates.Updates.{TakesUpdate}
use Rattle.ospf_area.specs.Numbers.{is_own}
use Rattle.ospf_area.specs.Outputs.{OutputsValue}
use Rattle.ospf_area.specs.Updates.Removal.{ends_run, leaving, lowest_number, RemovesOne}
use Rattle.ospf_area.specs.State.{Awaits, AreaValue, database_entry, kept_number, neighbour}
use Rattle.ospf_area.specs.declared.flooding.PacketSource.{PacketSource}

-- each neighbour has the old copy off its list, and then the LSA was
-- flooded to it or past it (13, step 5)
abbrev pub StoredNeighbours : Type 0
StoredNeighbours =
    (lsa : List ℕ) (from : Option PacketSource) (before after : AreaValue)
    → Stores lsa from before after
    → (l : ℕ) (q : RouterId)
    → neighbour after l q
    ≡ option_map (λ n.
    flooded (key_of lsa) (header_of lsa) (came_from (on_link from l) n) before.tick n)
    (option_map (key_unlisted (key_of lsa)) (neighbour before l q))

-- the database has the LSA in place of its key's, and nothing else changes (13.2)
abbrev pub StoredEntry : Type 0
StoredEntry =
    (lsa : List ℕ) (from : Option PacketSource) (before after : AreaValue)
    → Stores lsa from before after
    → (key : LsaKey)
    → database_entry after key
    ≡ (if same_key (lsdb.key_in (entry_from lsa before.tick (is_some from)).contents) key
    then Some (entry_from lsa before.tick (is_some from))
    else database_entry before key)

-- for the router's own keys the greatest number is recorded (12.1.6)
abbrev pub StoredNumbers : Type 0
StoredNumbers =
    (lsa : List ℕ) (from : Option PacketSource) (before after : AreaValue)
    → Stores lsa from before after
    → (key : LsaKey)
    → kept_number after key
    ≡ (if same_key (key_of lsa) key && is_own before.router key
    then int_max (kept_number before key) (header_of lsa).number
    else kept_number before key)

-- ---- what waits for an acknowledgement

-- an instance that waits keeps waiting, except for those of the key (13, step 5c; 13.3)
abbrev pub StoredStays : Type 0
StoredStays =
    (lsa : List ℕ) (from : Option PacketSource) (before after : AreaValue)
    → Stores lsa from before after
    → (l : ℕ) (q : RouterId) (j : Instance)
    → Awaits before l q j → Awaits after l q j ⊎ (j.key ≡ key_of lsa)

-- each neighbour in Exchange or above waits for the LSA, or is spared (13.3, step 1)
abbrev pub StoredReaches : Type 0
StoredReaches =
    (lsa : List ℕ) (from : Option PacketSource) (before after : AreaValue)
    → Stores lsa from before after
    → (l : ℕ) (q : RouterId) (n : NeighbourValue)
    → neighbour before l q ≡ Some n → is_exchanging n.state ≡ true
    → Awaits after l q (instance_with (key_of lsa) (header_of lsa))
    ⊎ IsSpared (key_of lsa) (header_of lsa) (on_link from l) n

-- ---- what leaves the database

-- of the LSAs that leave, those at MaxAge are gone, and nothing else changes (14)
abbrev pub RemovedEntries : Type 0
RemovedEntries =
    (before : AreaValue) (out out' : OutputsValue) (after : AreaValue)
    → InTurn RemovesOne (leaving before) before out out' after → (key : LsaKey)
    → held_of after.database key
    ≡ (if among (leaving before) key then removed (held_of before.database key)
    else held_of before.database key)

-- ---- copies that go to all

-- a flush takes only instances of its key off the lists, a tick those of the keys that
-- reach MaxAge in it (14, 14.1)
pub record CopiesStay : Type 0 where
  pub flushed : (key : LsaKey) (before : AreaValue) (out out' : OutputsValue) (after : AreaValue)
      → Flushes key before out out' after → (l : ℕ) (q : RouterId) (j : Instance)
      → Awaits before l q j → Awaits after l q j ⊎ (j.key ≡ key)
  pub aged : (before : AreaValue) (out out' : OutputsValue) (after : AreaValue)
      → TickAges before out out' after → (l : ℕ) (q : RouterId) (j : Instance)
      → Awaits before l q j
      → Awaits after l q j ⊎ (among (reached_at max_age after.database) j.key ≡ true)

-- each neighbour in Exchange or above waits for what is flushed, and for what reaches
-- MaxAge, or is spared (13.3, step 1)
pub record CopiesReach : Type 0 where
  pub flushed : (key : LsaKey) (before : AreaValue) (out out' : OutputsValue) (after : AreaValue)
      → Flushes key before out out' after → (copy : Entry) → database_entry after key ≡ Some copy
      → (l : ℕ) (q : RouterId) (n : NeighbourValue) → neighbour before l q ≡ Some n
      → is_exchanging n.state ≡ true
      → Awaits after l q (instance_with key (header_at copy)) ⊎ IsSpared key (header_at copy) None n
  pub aged : (before : AreaValue) (out out' : OutputsValue) (after : AreaValue)
      → TickAges before out out' after → (key : LsaKey)
      → among (reached_at max_age after.database) key ≡ true
      → (copy : Entry) → database_entry after key ≡ Some copy
      → (l : ℕ) (q : RouterId) (n : NeighbourValue) → neighbour before l q ≡ Some n
      → is_exchanging n.state ≡ true
      → Awaits after l q (instance_with key (header_at copy)) ⊎ IsSpared key (header_at copy) None n

-- ---- recorded numbers

-- the LSA was installed (13, step 5)
abbrev pub is_installed : Option LsaRule → Bool
is_installed None = false
is_installed (Some AcknowledgesExpired) = false
is_installed (Some TooSoon) = false
is_installed (Some Installs) = true
is_installed (Some BadRequest) = false
is_installed (Some Duplicate) = false
is_installed (Some Stale) = false

-- for the router's own keys the greatest number that was installed is recorded, until the copy with
-- the last number leaves (12.1.6)
pub record NumbersAreKept : Type 0 where
  pub met : (f : PacketSource) (lsa : List ℕ) (before : AreaValue) (out out' : OutputsValue)
      (after : AreaValue) → MeetsLsa f lsa before out out' after → (key : LsaKey)
      → kept_number after key
      ≡ (if is_installed (rule_met before f lsa)
      && (same_key (key_of lsa) key && is_own before.router key)
      then int_max (kept_number before key) (header_of lsa).number
      else kept_number before key)
  pub updated : (f : PacketSource) (slices : List (List ℕ)) (before : AreaValue)
      (out out' : OutputsValue)
      (after : AreaValue) → TakesUpdate f slices before out out' after → (key : LsaKey)
      → kept_number before key ≤ℤ kept_number after key
  pub acknowledged : (f : PacketSource) (h : LsaHeader) (before : AreaValue) (key : LsaKey)
      → kept_number (header_met f h before) key ≡ kept_number before key
  pub flushed : (key : LsaKey) (before : AreaValue) (out out' : OutputsValue) (after : AreaValue)
      → Flushes key before out out' after → (k : LsaKey)
      → kept_number after k ≡ kept_number before k
  pub aged : (before : AreaValue) (out out' : OutputsValue) (after : AreaValue)
      → TickAges before out out' after → (key : LsaKey)
      → kept_number after key ≡ kept_number before key
  pub removed : (before : AreaValue) (out out' : OutputsValue) (after : AreaValue)
      → InTurn RemovesOne (leaving before) before out out' after → (key : LsaKey)
      → kept_number after key
      ≡ (if among (leaving before) key && ends_run before key then lowest_number
      else kept_number before key)

-- ---- how long the LSAs of the database are

-- an LSA that an Update has room for
abbrev pub IsShortLsa : List ℕ → Type 0
IsShortLsa lsa = length lsa ≤ largest_lsa

-- those of an Update that is read are
abbrev pub UpdatesBringShort : Type 0
UpdatesBringShort =
    (bytes : List ℕ) (m : Meaning) (lsas : List (List ℕ)) → packet_of bytes ≡ Some m
    → m.body ≡ update lsas → AllByRecursion IsShortLsa lsas

-- and whatever is done, those of the database stay so
pub record AreaStaysShort : Type 0 where
  pub stored : (lsa : List ℕ) (from : Option PacketSource) (before after : AreaValue)
      → Stores lsa from before after → IsShortLsa lsa → AreShort before.database
      → AreShort after.database
  pub met : (f : PacketSource) (lsa : List ℕ) (before : AreaValue) (out out' : OutputsValue)
      (after : AreaValue) → MeetsLsa f lsa before out out' after → IsShortLsa lsa
      → AreShort before.database → AreShort after.database
  pub updated : (f : PacketSource) (slices : List (List ℕ)) (before : AreaValue)
      (out out' : OutputsValue)
      (after : AreaValue) → TakesUpdate f slices before out out' after
      → AllByRecursion IsShortLsa slices → AreShort before.database → AreShort after.database
  pub acknowledged : (f : PacketSource) (h : LsaHeader) (before : AreaValue)
      → AreShort before.database
      → AreShort (header_met f h before).database
  pub flushed : (key : LsaKey) (before : AreaValue) (out out' : OutputsValue) (after : AreaValue)
      → Flushes key before out out' after → AreShort before.database → AreShort after.database
  pub aged : (before : AreaValue) (out out' : OutputsValue) (after : AreaValue)
      → TickAges before out out' after → AreShort before.database → AreShort after.database
  pub removed : (before : AreaValue) (out out' : OutputsValue) (after : AreaValue)
      → InTurn RemovesOne (leaving before) before out out' after → AreShort before.database
      → AreShort after.database
