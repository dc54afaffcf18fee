-- An area without several of its parts, and the table of a router in it.
use Rattle.std.specs.Prelude.{◌≡◌, ℕ, List, ◌++◌, ◌∷◌, String, codes, string_bytes}
use Rattle.std.specs.List.{AllZip}
use Rattle.std.specs.declared.alloc.Global.{Global}
use Rattle.ospf_base.specs.declared.ids.Addr.{Addr}
use Rattle.ospf_base.specs.declared.ids.RouterId.{RouterId}
use Rattle.ospf_graph.specs.Advertisements.{Advertisement}
use Rattle.ospf_graph.specs.Routes.{IsTable}
use Rattle.ospf_graph.specs.declared.route.Route.{Route}
use Rattle.ospf_files.specs.declared.status.Failure.TheVariants as failure
use Rattle.ospf_table.specs.Output.{IsOutput}
use Rattle.ospf_whatif.specs.Failure.{without_all}
use Rattle.ospf_table.specs.Named.{IsNamed}
use Rattle.ospf_whatif.specs.Stubs.{AreAllFailures}
use Rattle.ospf_whatif.specs.declared.failure.AreaFailure.{AreaFailure}
use Rattle.ospf_failures.specs.declared.answer.Unreported.{Unreported}
use Rattle.ospf_failures.specs.declared.answer.Unreported.TheVariants as fault

-- ---- by names

-- a name is that of one of these
abbrev pub IsNamedBy : List AreaFailure → String Global → AreaFailure → Type 0
IsNamedBy single name f = IsNamed single (string_bytes name) f

-- the names are those of these, each of which may fail in the area
pub record AreNamed (adverts : List Advertisement) (names : List (String Global))
    (failures : List AreaFailure) : Type 0 where
  pub single : List AreaFailure
  pub are_single : AreAllFailures adverts single
  pub named : AllZip (IsNamedBy single) names failures

-- a name that is that of none of these
abbrev pub IsUnnamedHere : List AreaFailure → String Global → String Global → Type 0
IsUnnamedHere single name other = (other ≡ name) × ((f : AreaFailure) → IsNamedBy single name f → ⊥)

-- the first name that is that of none of these
pub record IsFirstAmong (single : List AreaFailure) (names : List (String Global))
    (name : String Global) : Type 0 where
  pub before : List (String Global)
  pub after : List (String Global)
  pub names_are : names ≡ before ++ name ∷ after
  pub failures : List AreaFailure
  pub named : AllZip (IsNamedBy single) before failures
  pub unnamed : (f : AreaFailure) → IsNamedBy single name f → ⊥

-- the first name of nothing that may fail in the area
pub record IsFirstUnnamed (adverts : List Advertisement) (names : List (String Global))
    (name : String Global) : Type 0 where
  pub single : List AreaFailure
  pub are_single : AreAllFailures adverts single
  pub first : IsFirstAmong single names name

-- the line about it
abbrev pub unnamed_line : String Global → List ℕ
unnamed_line name = string_bytes name ++ codes ": not in this area\n"

-- why there is no table: memory ran out, or the text is the line about the first unknown name
abbrev pub IsFaultOfNames : (String Global → Type 0) → Unreported → Type 0
IsFaultOfNames IsFirst (fault.Refused text) = ⊥
IsFaultOfNames IsFirst (fault.Unnamed text) =
    (name : String Global) × IsFirst name × (string_bytes text ≡ unnamed_line name)
IsFaultOfNames IsFirst (fault.Failure f) = f ≡ failure.Memory

-- ---- the table

-- the table of a router in an area, and what it says of the addresses
pub record SaysTableOfLeft (left : List Advertisement) (root : RouterId) (addresses : List Addr)
    (text : List ℕ) : Type 0 where
  pub table : List Route
  pub is_table : IsTable left root table
  pub output : IsOutput table addresses text

-- that of the area without the parts that are named
pub record IsTableWithout (adverts : List Advertisement) (names : List (String Global))
    (root : RouterId) (addresses : List Addr) (text : List ℕ) : Type 0 where
  pub failures : List AreaFailure
  pub are_named : AreNamed adverts names failures
  pub says : SaysTableOfLeft (without_all failures adverts) root addresses text
