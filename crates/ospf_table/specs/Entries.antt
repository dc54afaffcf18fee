-- LSAs by their keys.
use Rattle.std.specs.Prelude.{◌≡◌, ◌<◌, ℕ, List}
use Rattle.std.specs.BTreeMap.{BTreeMap, IsOrdered}
use Rattle.std.specs.List.{AllByRecursion}
use Rattle.ospf_base.specs.Constants.{max_age}
use Rattle.ospf_base.specs.declared.ids.LsaKey.{LsaKey}
use Rattle.ospf_lsa.specs.Header.{header_of}
use Rattle.ospf_lsa.specs.Lsa.{key_of}
use Rattle.ospf_base.specs.Keys.{key_cmp}

-- an LSA below MaxAge, under its own key
pub record IsKeyedEntry (e : LsaKey × List ℕ) : Type 0 where
  pub key : key_of e.1 ≡ e.0
  pub young : (header_of e.1).age < max_age

-- each of them is
abbrev pub AreKeyed : List (LsaKey × List ℕ) → Type 0
AreKeyed es = AllByRecursion IsKeyedEntry es

-- LSAs below MaxAge, each under its own key, in the order of keys
pub record IsGathered (lsas : BTreeMap LsaKey (List ℕ)) : Type 0 where
  pub keyed : AreKeyed lsas.entries
  pub ordered : IsOrdered key_cmp lsas
