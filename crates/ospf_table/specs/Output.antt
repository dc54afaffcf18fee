-- What the program prints of a routing table, and of the addresses that are looked up in it.
use Rattle.std.specs.Prelude.{◌≡◌, ◌≢◌, ◌⊎◌, ℕ, List, [], ◌∷◌, ◌++◌, Contains, codes}
use Rattle.ospf_base.specs.Prefixes.{Holds}
use Rattle.ospf_base.specs.Text.{number_text}
use Rattle.ospf_base.specs.declared.ids.Addr.{Addr}
use Rattle.ospf_base.specs.declared.ids.RouterId.{RouterId}
use Rattle.ospf_graph.specs.Routes.{IsTable}
use Rattle.ospf_graph.specs.Walk.{IsBest}
use Rattle.ospf_graph.specs.declared.hop.NextHop.{NextHop}
use Rattle.ospf_graph.specs.declared.route.Route.{Route}
use Rattle.ospf_fib.specs.Found.{found_text}
use Rattle.ospf_files.specs.Shown.{lookup_none_line, routes_text}
use Rattle.ospf_files.specs.Streams.{Written}
use Rattle.ospf_spf.specs.Listed.{advertisements_of}
use Rattle.ospf_table.specs.Line.{Reads}
use Rattle.ospf_table.specs.Outside.{IsOutsideWarning}
use Rattle.ospf_base.specs.declared.ids.Kind.TheVariants.{Router}
use Rattle.ospf_lsa.specs.Listing.{HasKey}
use Rattle.std.specs.Io.KnownBytes.{Appends}

-- no route's prefix holds the address, and the line says so
pub record IsNoRouteLine (table : List Route) (address : ℕ) (line : List ℕ) : Type 0 where
  pub none : (route : Route) → Contains table route → Holds route.prefix address → ⊥
  pub line_is : line ≡ lookup_none_line address

-- the line has the route of longest prefix that holds the address (RFC 2328, section
-- 11.1), and the first of its hops
pub record IsBestLine (table : List Route) (address : ℕ) (line : List ℕ) : Type 0 where
  pub route : Route
  pub best : IsBest table address route
  pub hop : NextHop
  pub others : List NextHop
  pub hops : route.hops ≡ hop ∷ others
  pub line_is : line ≡ found_text address route.prefix route.cost hop ++ codes "\n"

-- the line of an address: no route holds it, or the route of longest prefix that
-- does, with the first of its hops
abbrev pub IsLookupLine : List Route → ℕ → List ℕ → Type 0
IsLookupLine table address line = IsNoRouteLine table address line ⊎ IsBestLine table address line

-- a line for each address, in their order
pub data AreLookups : List Route → List Addr → List ℕ → Type 0 where
  no_more : {table : List Route} → AreLookups table [] []
  one_more : {table : List Route} {address : Addr} {rest : List Addr} {line lines : List ℕ}
      → IsLookupLine table address.0 line
      → AreLookups table rest lines → AreLookups table (address ∷ rest) (line ++ lines)

-- the routes, and after them the lookups
pub record IsOutput (table : List Route) (addresses : List Addr) (text : List ℕ) : Type 0 where
  pub lookups : List ℕ
  pub are_lookups : AreLookups table addresses lookups
  pub text_is : text ≡ routes_text table ++ lookups

-- the line about a root without a router-LSA
abbrev pub unlisted_line : RouterId → List ℕ
unlisted_line root = number_text root.0 ++ codes ": no router-LSA of this router\n"

-- LSAs are listed, and none is the root's router-LSA (RFC 2328, section 12.4.1)
abbrev pub IsUnlisted : List (List ℕ) → RouterId → Type 0
IsUnlisted listing root =
    (listing ≢ []) × (HasKey listing (record { kind = Router; id = root.0; router = root }) → ⊥)

-- what is said on standard error of the root: that its router-LSA is not listed, where others are
abbrev pub IsWarning : List (List ℕ) → RouterId → List ℕ → Type 0
IsWarning listing root text =
    (IsUnlisted listing root × (text ≡ unlisted_line root))
    ⊎ ((IsUnlisted listing root → ⊥) × (text ≡ []))

-- what is said on standard error of a table: of the root, and of routes outside the area where an
-- address is looked up that the table has no route for
abbrev pub IsTableWarning : List (List ℕ) → RouterId → List Route → List Addr → List ℕ → Type 0
IsTableWarning listing root table addresses text =
    (own more : List ℕ) × IsWarning listing root own × IsOutsideWarning listing table addresses more
    × (text ≡ own ++ more)

-- what is printed for an input: the routing table of the root over its LSAs, and the lookups in
-- it; and the warning
pub record IsTableAnswer (input : List ℕ) (root : RouterId) (addresses : List Addr)
    (text warning : List ℕ) : Type 0 where
  pub listing : List (List ℕ)
  pub reads : Reads input [] listing
  pub table : List Route
  pub is_table : IsTable (advertisements_of listing) root table
  pub warned : IsTableWarning listing root table addresses warning
  pub output : IsOutput table addresses text

-- the answer for an input is on standard output, and its warning on standard error
pub record IsTableAnswered (input : List ℕ) (root : RouterId) (addresses : List Addr)
    (old new : Written) : Type 0 where
  pub text : List ℕ
  pub warning : List ℕ
  pub is : IsTableAnswer input root addresses text warning
  pub out : Appends old.out new.out text
  pub err : Appends old.err new.err warning
