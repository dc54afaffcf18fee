-- The keys of the entries at MaxAge, in a list (RFC 2328, section 14).
use Rattle.std.specs.Prelude.{◌≡◌, ◌≤◌, ℕ, Bool, List, filter, length, map, if◌then◌else◌}
use Rattle.ospf_base.specs.declared.ids.LsaKey.{LsaKey}
use Rattle.ospf_base.specs.Keys.{same_key}
use Rattle.ospf_lsdb.specs.Database.{Held, is_expired, key_at}
use Rattle.ospf_lsdb.specs.Moments.{among}

-- a list of keys, and how many it holds without more memory
pub record KeysValue : Type 0 where
  pub keys : List LsaKey
  pub room : ℕ

-- from now on a key is in the list, or not, and nothing else changes
abbrev pub SetsKey : LsaKey → Bool → List LsaKey → List LsaKey → Type 0
SetsKey key is_in before after =
    (k : LsaKey) → among after k ≡ (if same_key key k then is_in else among before k)

-- the list has the keys of the entries at MaxAge, in order, and room for those of all
pub record IsIndex (db : List Held) (list : KeysValue) : Type 0 where
  pub keys : list.keys ≡ map key_at (filter is_expired db)
  pub room : length db ≤ list.room
