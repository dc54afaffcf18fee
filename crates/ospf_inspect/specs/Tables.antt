-- The routing tables of all routers of a listing (RFC 2328, section 11).
use Rattle.std.specs.Prelude.{◌≡◌, ℕ, List, [], ◌++◌, Bool, true, false, codes, filter, map}
use Rattle.serde_json.specs.Data.{Data, array, number, object, string, unsigned, member, no_members}
use Rattle.serde_json.specs.View.{items_of}
use Rattle.ospf_base.specs.Bytes.{number_at}
use Rattle.ospf_base.specs.Text.{number_text, prefix_text}
use Rattle.ospf_base.specs.declared.ids.Addr.{Addr}
use Rattle.ospf_base.specs.declared.ids.Kind.{Kind}
use Rattle.ospf_base.specs.declared.ids.Kind.TheVariants as kind
use Rattle.ospf_files.specs.Shown.{routes_text}
use Rattle.ospf_graph.specs.Advertisements.{Advertisement}
use Rattle.ospf_graph.specs.Routes.{IsTable}
use Rattle.ospf_graph.specs.Text.{hop_text}
use Rattle.ospf_graph.specs.declared.hop.NextHop.{NextHop}
use Rattle.ospf_graph.specs.declared.route.Route.{Route}
use Rattle.ospf_lsa.specs.Lsa.{kind_of}
use Rattle.ospf_table.specs.Values.{IsTableLine}
use Rattle.ospf_inspect.specs.Json.{IsArray, json_line}

-- whose table it is
abbrev pub router_heading : ℕ → List ℕ
router_heading router = codes "router " ++ number_text router ++ codes "\n"

-- a router's table below a line that says whose it is
abbrev pub SaysTable : List Advertisement → ℕ → List ℕ → Type 0
SaysTable adverts router text =
    (table : List Route) × IsTable adverts (record { 0 = router }) table
    × (text ≡ router_heading router ++ routes_text table)

-- of a router-LSA the table of its router, and of a network-LSA nothing
abbrev pub SaysTableOfKind : List Advertisement → List ℕ → Kind → List ℕ → Type 0
SaysTableOfKind adverts lsa kind.Router text = SaysTable adverts (number_at 8 4 lsa) text
SaysTableOfKind adverts lsa kind.Network text = text ≡ []

-- the lines say of an LSA the table of its router, where it is a router-LSA
abbrev pub SaysTableOf : List Advertisement → List ℕ → List ℕ → Type 0
SaysTableOf adverts lsa text = SaysTableOfKind adverts lsa (kind_of lsa) text

-- ---- as JSON (RFC 8259)

-- hops, each by its text
abbrev pub hop_data : NextHop → Data
hop_data hop = string (hop_text hop)

-- the next hops of a route, as an array
abbrev pub hops_data : List NextHop → Data
hops_data hops = array (items_of (map hop_data hops))

-- what a route costs, its hops, and the prefix that it leads to
abbrev pub route_data : Route → Data
route_data r =
    object
    (member (codes "cost") (number (unsigned r.cost)) (member (codes "hops") (hops_data r.hops)
    (member (codes "prefix") (string (prefix_text r.prefix)) no_members)))

-- the routes in their order
abbrev pub routes_data : List Route → Data
routes_data routes = array (items_of (map route_data routes))

-- a router's table
abbrev pub TellsTable : List Advertisement → ℕ → Data → Type 0
TellsTable adverts router d =
    (table : List Route) × IsTable adverts (record { 0 = router }) table × (d ≡ routes_data table)

-- and whose it is
abbrev pub root_data : ℕ → Data → Data
root_data router routes =
    object
    (member (codes "root") (string (number_text router))
    (member (codes "routes") routes no_members))

-- the value shows a router and its table
abbrev pub TellsRoot : List Advertisement → ℕ → Data → Type 0
TellsRoot adverts router d =
    (routes : Data) × TellsTable adverts router routes × (d ≡ root_data router routes)

-- the value shows the router of an LSA and its table
abbrev pub TellsRootOf : List Advertisement → List ℕ → Data → Type 0
TellsRootOf adverts lsa d = TellsRoot adverts (number_at 8 4 lsa) d

-- a router-LSA
abbrev pub is_router : Kind → Bool
is_router kind.Router = true
is_router kind.Network = false

-- the table of each router whose router-LSA is listed
abbrev pub TellsTables : List Advertisement → List (List ℕ) → Data → Type 0
TellsTables adverts lsas d =
    IsArray (TellsRootOf adverts) (filter (λ lsa. is_router (kind_of lsa)) lsas) d

-- each as a value on a line
abbrev pub SaysTableInJson : List Advertisement → ℕ → List ℕ → Type 0
SaysTableInJson adverts router text =
    (d : Data) × TellsTable adverts router d × (text ≡ json_line d)

-- the text is one line of JSON with the tables of all routers
abbrev pub SaysTablesInJson : List Advertisement → List (List ℕ) → List ℕ → Type 0
SaysTablesInJson adverts lsas text = (d : Data) × TellsTables adverts lsas d × (text ≡ json_line d)

-- ---- as JSON of version 2

-- the line of a router's table and of lookups in it
abbrev pub SaysTableLine : List Advertisement → ℕ → List Addr → List ℕ → Type 0
SaysTableLine adverts router addresses text =
    (table : List Route) × IsTable adverts (record { 0 = router }) table
    × IsTableLine table (record { 0 = router }) addresses text

-- of a router-LSA the line of its router's table, and of a network-LSA nothing
abbrev pub SaysTableLineOfKind : List Advertisement → List ℕ → Kind → List ℕ → Type 0
SaysTableLineOfKind adverts lsa kind.Router text = SaysTableLine adverts (number_at 8 4 lsa) [] text
SaysTableLineOfKind adverts lsa kind.Network text = text ≡ []

-- by the kind of the LSA
abbrev pub SaysTableLineOf : List Advertisement → List ℕ → List ℕ → Type 0
SaysTableLineOf adverts lsa text = SaysTableLineOfKind adverts lsa (kind_of lsa) text
