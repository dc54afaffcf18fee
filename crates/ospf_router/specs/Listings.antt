-- A database that lists what a listing has (RFC 2328, section 14).
use Rattle.std.specs.Prelude.{◌≡◌, ◌⊎◌, ℕ, List, Contains, Some, map, true}
use Rattle.ospf_area.specs.Outputs.{OutputsValue}
use Rattle.ospf_base.specs.Sums.{contents}
use Rattle.ospf_base.specs.declared.ids.LsaKey.{LsaKey}
use Rattle.ospf_lsdb.specs.Database.{Entry, Held, entry_of, is_fresh, listed}
use Rattle.ospf_router.specs.Touched.{TouchesKey}

-- the very LSAs, at whatever ages
abbrev pub ListsAs : List Held → List (List ℕ) → Type 0
ListsAs db lsas = map contents (listed db) ≡ map contents lsas

-- the listing has the LSA of an entry, at whatever age
abbrev pub ListsEntry : List (List ℕ) → Entry → Type 0
ListsEntry lsas e = (lsa : List ℕ) × Contains lsas lsa × (contents lsa ≡ e.contents)

-- what the database has below MaxAge at a key is listed
abbrev pub AreListedAt : List Held → LsaKey → List (List ℕ) → Type 0
AreListedAt db key lsas =
    (e : Entry) → entry_of db key ≡ Some e → is_fresh e ≡ true → ListsEntry lsas e

-- what was listed at a key is listed still
abbrev pub StayListed : List Held → List (List ℕ) → List (List ℕ) → Type 0
StayListed db old new = (key : LsaKey) → AreListedAt db key old → AreListedAt db key new

-- what the database has below MaxAge is listed, except at the keys that a step took or issued
abbrev pub ListsBut : OutputsValue → List Held → List (List ℕ) → Type 0
ListsBut out db lsas = (key : LsaKey) → TouchesKey out key ⊎ AreListedAt db key lsas
