-- What a router records, so that its own LSAs can be made, distinguished and numbered (RFC
-- 2328, sections 12.1.6 and 12.4).
use Rattle.std.specs.Prelude.{◌≡◌, ◌≤◌, ◌≤ℤ◌, true, Some, is_some, length}
use Rattle.ospf_base.specs.declared.ids.LsaKey.{LsaKey}
use Rattle.ospf_lsdb.specs.Database.{Entry, header_at}
use Rattle.ospf_area.specs.Numbers.{is_own}
use Rattle.ospf_area.specs.State.{AreaValue, database_entry, kept_number, numbering_of}
pub use Rattle.ospf_originate.specs.Wants.SetUp.{IsSetUp, AreApart, max_links, max_stubs, AreSetUp}

-- ---- numbers

-- each key of the router's own that the database has is numbered
abbrev pub AreNumbered : AreaValue → Type 0
AreNumbered s =
    (key : LsaKey) → is_some (database_entry s key) ≡ true → is_own s.router key ≡ true
    → is_some (numbering_of s.numbering key) ≡ true

-- and the number of its copy is at most the recorded one: the next one issued is newer (12.1.6)
abbrev pub AreCounted : AreaValue → Type 0
AreCounted s =
    (key : LsaKey) (copy : Entry) → database_entry s key ≡ Some copy → is_own s.router key ≡ true
    → (header_at copy).number ≤ℤ kept_number s key

-- no recorded number is above the greatest one
abbrev pub AreBelowGreatest : AreaValue → Type 0
AreBelowGreatest s = (key : LsaKey) → kept_number s key ≤ℤ s.max_seq

-- ---- both

-- all of it holds of a router
pub record IsSound (s : AreaValue) : Type 0 where
  pub links : AreSetUp s.links
  pub stubs : length s.stubs ≤ max_stubs
  pub numbered : AreNumbered s
  pub counted : AreCounted s
  pub max_seq : AreBelowGreatest s
