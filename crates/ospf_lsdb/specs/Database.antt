-- The link state database (RFC 2328, sections 12.2 and 14): a map from keys to entries.
use Rattle.std.specs.Prelude.{◌≡◌, ◌==◌, ◌&&◌, ◌||◌, ℕ, ◌+◌, ◌≤◌, Bool, false, List, [], ◌∷◌, ◌++◌, map, filter, find, Option, None, Some, option_map, if◌then◌else◌, nat_lt}
use Rattle.std.specs.List.{AllByRecursion}
use Rattle.ospf_base.specs.Rising.{IsRisingBy}
use Rattle.ospf_base.specs.Bytes.{number_bytes}
use Rattle.ospf_base.specs.Constants.{max_age}
use Rattle.ospf_base.specs.Keys.{same_key, Precedes}
use Rattle.ospf_base.specs.Sums as sums
use Rattle.ospf_base.specs.declared.ids.Instance.{Instance}
use Rattle.ospf_base.specs.declared.ids.LsaKey.{LsaKey}
use Rattle.ospf_lsa.specs.Header.{header_of}
use Rattle.ospf_lsa.specs.Lsa.{key_of, instance_of}
use Rattle.ospf_lsa.specs.declared.header.LsaHeader.{LsaHeader}

-- ---- entries

-- an entry: the LSA as its age and the bytes after the age, the tick in which it was installed,
-- and whether it came by flooding
pub record Entry : Type 0 where
  pub age : ℕ
  pub contents : List ℕ
  pub tick : ℕ
  pub by_flooding : Bool

-- an entry of a database, and whether the last tick brought its age to LSRefreshTime or MaxAge
pub record Held : Type 0 where
  pub entry : Entry
  pub reached : Bool

-- the LSA of an entry, at its present age
abbrev pub lsa_of : Entry → List ℕ
lsa_of e = number_bytes 2 e.age ++ e.contents

-- the header of an entry, at its present age
abbrev pub header_at : Entry → LsaHeader
header_at e = header_of (lsa_of e)

-- the instance of an entry (section 12.1)
abbrev pub instance_at : Entry → Instance
instance_at e = instance_of (lsa_of e)

-- the LSA is below MaxAge
abbrev pub is_fresh : Entry → Bool
is_fresh e = nat_lt e.age max_age

-- what names an LSA of these contents, at any age (section 12.1)
unfoldable pub key_in : List ℕ → LsaKey
key_in contents = key_of (0 ∷ 0 ∷ contents)

-- the key of an entry
abbrev pub key_at : Held → LsaKey
key_at h = key_in h.entry.contents

-- the entry that an LSA begins as. An age field above MaxAge means MaxAge
unfoldable pub entry_from : List ℕ → ℕ → Bool → Entry
entry_from lsa tick by_flooding =
    record {
      age = (header_of lsa).age;
      contents = sums.contents lsa;
      tick = tick;
      by_flooding = by_flooding;
    }

-- ---- the map

-- the entries in the order of their keys
abbrev pub entries : List Held → List Entry
entries db = map (λ h. h.entry) db

-- the database as a map: what it has at a key
abbrev pub held_of : List Held → LsaKey → Option Held
held_of db key = find (λ h. same_key (key_at h) key) db

-- the entry of a key
abbrev pub entry_of : List Held → LsaKey → Option Entry
entry_of db key = option_map (λ h. h.entry) (held_of db key)

-- a database: its entries in the order of their keys, at most one per key, none older than MaxAge
pub record IsDatabase (db : List Held) : Type 0 where
  pub rising : IsRisingBy (λ a b. Precedes (key_at a) (key_at b)) db
  pub ages : AllByRecursion (λ h. h.entry.age ≤ max_age) db

-- the entry of one key is replaced, perhaps by none, and nothing else changes
abbrev pub Puts : LsaKey → Option Held → List Held → List Held → Type 0
Puts key held before after =
    (k : LsaKey) → held_of after k ≡ (if same_key key k then held else held_of before k)

-- ---- what the calls do

-- an entry takes the place of its key's (section 13.2)
abbrev pub Installs : Entry → List Held → List Held → Type 0
Installs e before after =
    Puts (key_in e.contents) (Some (record { entry = e; reached = false })) before after

-- LSRefreshTime: the age at which a router issues its own LSA again (appendix B)
abbrev pub ls_refresh_time : ℕ
ls_refresh_time = 1800

-- the ages that a tick reports
abbrev pub is_told : ℕ → Bool
is_told age = (age == ls_refresh_time) || (age == max_age)

-- an entry a tick later, without what the tick reports
unfoldable pub aged : Entry → Entry
aged e = if is_fresh e then record e { age = e.age + 1 } else e

-- an entry a tick later: an age below MaxAge is one more (section 14)
unfoldable pub older : Held → Held
older h = if is_fresh h.entry
    then record {
      entry = record h.entry { age = h.entry.age + 1 };
      reached = is_told (h.entry.age + 1);
    }
    else record h { reached = false }

-- all entries a tick later
abbrev pub Ages : List Held → List Held → Type 0
Ages before after = (k : LsaKey) → held_of after k ≡ option_map older (held_of before k)

-- an entry brought to MaxAge before its time: the contents, the tick and
-- the origin are unchanged (section 14.1)
unfoldable pub expired : Held → Held
expired h =
    if is_fresh h.entry then record { entry = record h.entry { age = max_age }; reached = false }
    else h

-- whether there is an entry, and it passes the test
abbrev pub is_some_and : (Held → Bool) → Option Held → Bool
is_some_and test None = false
is_some_and test (Some h) = test h

-- an entry that has reached MaxAge
abbrev pub is_expired : Held → Bool
is_expired h = h.entry.age == max_age

-- an entry at MaxAge is removed, a younger one is not
unfoldable pub removed : Option Held → Option Held
removed None = None
removed (Some h) = if is_expired h then None else Some h

-- the LSAs below MaxAge, in the order of their keys (section 14)
abbrev pub listed : List Held → List (List ℕ)
listed db = map (λ h. lsa_of h.entry) (filter (λ h. is_fresh h.entry) db)

-- what is listed of one entry
unfoldable pub listed_of : Entry → List (List ℕ)
listed_of e = if is_fresh e then lsa_of e ∷ [] else []

-- the keys whose age became this one at the last tick, in order
unfoldable pub reached_at : ℕ → List Held → List LsaKey
reached_at age db = map key_at (filter (λ h. h.reached && (h.entry.age == age)) db)
