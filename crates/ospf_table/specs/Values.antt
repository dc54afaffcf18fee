-- A routing table, and addresses that are looked up in it, as values of JSON (RFC 8259), version 2.
use Rattle.std.specs.Prelude.{◌≡◌, ◌⊎◌, ℕ, List, codes, map}
use Rattle.std.specs.List.{AllZip}
use Rattle.serde_json.specs.Data.{Data, array, null, number, object, string, unsigned, member, no_members}
use Rattle.serde_json.specs.View.{items_of}
use Rattle.ospf_base.specs.Text.{number_text, prefix_text}
use Rattle.ospf_base.specs.declared.ids.Addr.{Addr}
use Rattle.ospf_base.specs.declared.ids.RouterId.{RouterId}
use Rattle.ospf_graph.specs.Walk.{IsBest}
use Rattle.ospf_graph.specs.declared.hop.NextHop.{NextHop}
use Rattle.ospf_graph.specs.declared.hop.NextHop.TheVariants.{Attached, PointToPoint, Lan}
use Rattle.ospf_graph.specs.declared.route.Route.{Route}
use Rattle.ospf_table.specs.Objects.{data_line}
use Rattle.ospf_table.specs.Outside.{IsMissing}

-- ---- routes

-- an address or a Router ID as its text
abbrev pub id_data : ℕ → Data
id_data id = string (number_text id)

-- the router's address on a network, the address of the own interface, and the router
abbrev pub hop_object_of : (address interface router : Data) → Data
hop_object_of address interface router =
    object
    (member (codes "address") address
    (member (codes "interface") interface (member (codes "router") router no_members)))

-- a hop by its parts (RFC 2328, section 16.1.1); null for a part that it does not have
abbrev pub hop_object : NextHop → Data
hop_object Attached = hop_object_of null null null
hop_object (PointToPoint local router) = hop_object_of null (id_data local.0) (id_data router.0)
hop_object (Lan local router address) =
    hop_object_of (id_data address.0) (id_data local.0) (id_data router.0)

-- the next hops of a route, in their order
abbrev pub hop_objects : List NextHop → Data
hop_objects hops = array (items_of (map hop_object hops))

-- what a route costs, its hops, and the prefix that it leads to
abbrev pub route_object : Route → Data
route_object r =
    object
    (member (codes "cost") (number (unsigned r.cost)) (member (codes "hops") (hop_objects r.hops)
    (member (codes "prefix") (string (prefix_text r.prefix)) no_members)))

-- the routes in their order
abbrev pub route_objects : List Route → Data
route_objects routes = array (items_of (map route_object routes))

-- ---- lookups

-- an address, and what leads to it
abbrev pub found_data : ℕ → Data → Data
found_data address route =
    object (member (codes "address") (id_data address) (member (codes "route") route no_members))

-- no route's prefix holds the address
abbrev pub IsNoneFound : List Route → ℕ → Data → Type 0
IsNoneFound table address d = IsMissing table address × (d ≡ found_data address null)

-- the route of longest prefix that holds the address leads to it (section 11.1)
abbrev pub IsBestFound : List Route → ℕ → Data → Type 0
IsBestFound table address d =
    (route : Route) × IsBest table address route × (d ≡ found_data address (route_object route))

-- what a table says of an address: one of these
abbrev pub IsFoundBy : List Route → Addr → Data → Type 0
IsFoundBy table address d = IsNoneFound table address.0 d ⊎ IsBestFound table address.0 d

-- a value for each address, in their order
abbrev pub AreFound : List Route → List Addr → List Data → Type 0
AreFound table addresses ds = AllZip (IsFoundBy table) addresses ds

-- ---- a table

-- the lookups, the router whose table it is, and its routes
abbrev pub table_data : List Data → RouterId → List Route → Data
table_data lookups root table =
    object
    (member (codes "lookups") (array (items_of lookups))
    (member (codes "root") (id_data root.0)
    (member (codes "routes") (route_objects table) no_members)))

-- the object of a table
abbrev pub IsTableData : List Route → RouterId → List Addr → Data → Type 0
IsTableData table root addresses d =
    (lookups : List Data) × AreFound table addresses lookups × (d ≡ table_data lookups root table)

-- and its line
abbrev pub IsTableLine : List Route → RouterId → List Addr → List ℕ → Type 0
IsTableLine table root addresses text =
    (d : Data) × IsTableData table root addresses d × (text ≡ data_line d)
