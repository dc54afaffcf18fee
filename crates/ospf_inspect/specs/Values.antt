-- The LSAs of a listing as a JSON value (RFC 8259), which shows what the text form shows.
use Rattle.std.specs.Prelude.{◌≡◌, ◌↔◌, ℕ, List, Bool, IsTrue, codes}
use Rattle.serde_json.specs.Data.{Data, Members, boolean, number, object, string, unsigned, member, no_members}
use Rattle.ospf_base.specs.Text.{number_text}
use Rattle.ospf_base.specs.declared.ids.Instance.{Instance}
use Rattle.ospf_base.specs.declared.ids.Kind.{Kind}
use Rattle.ospf_base.specs.declared.ids.Kind.TheVariants as kind
use Rattle.ospf_base.specs.declared.ids.RouterId.{RouterId}
use Rattle.ospf_lsa.specs.Header.{header_of}
use Rattle.ospf_lsa.specs.Lsa.{attached_of, instance_of, key_of, kind_of, links_of}
use Rattle.ospf_lsa.specs.declared.link.Link.{Link}
use Rattle.ospf_lsa.specs.declared.link.LinkKind.{LinkKind}
use Rattle.ospf_lsa.specs.declared.link.LinkKind.TheVariants.{PointToPoint, Transit, Stub, Virtual}
use Rattle.ospf_graph.specs.Advertisements.{Advertisement}
use Rattle.ospf_graph.specs.declared.graph.Vertex.{Vertex}
use Rattle.ospf_graph.specs.declared.graph.Vertex.TheVariants as vertex
use Rattle.ospf_graph.specs.EdgeLists.Given.{StandsFor}
use Rattle.ospf_inspect.specs.AreaDrawing.Graph.{prefix_under}
use Rattle.ospf_script.specs.Texts.{floor_text, hexadecimal}
use Rattle.ospf_inspect.specs.Json.{IsArray, json_line}
use Rattle.ospf_inspect.specs.Lsas.{AreJoined, flag_letters, flags_of, network_name_of}
use Rattle.ospf_inspect.specs.declared.lsas.NetworkName.{NetworkName}

-- ---- links of a router

-- a link to a router or a transit network: its cost, its local address, what it leads to, and
-- whether only this end advertises it
abbrev pub way_data : List ℕ → Link → Bool → Data
way_data what link one_way =
    object
    (member (codes "cost") (number (unsigned link.metric))
    (member (codes "from") (string (number_text link.link_data))
    (member (codes "link") (string what)
    (member (codes "one_way") (boolean one_way)
    (member (codes "to") (string (number_text link.id)) no_members)))))

-- the value of a link to a stub network (RFC 2328, section 12.4.1)
abbrev pub stub_data : Link → Data
stub_data link =
    object
    (member (codes "cost") (number (unsigned link.metric))
    (member (codes "link") (string (codes "stub"))
    (member (codes "prefix") (string (prefix_under link.id link.link_data)) no_members)))

-- the value of a virtual link
abbrev pub virtual_data : ℕ → Data
virtual_data to =
    object
    (member (codes "link") (string (codes "virtual"))
    (member (codes "to") (string (number_text to)) no_members))

-- no edge of the graph leads there
abbrev pub IsOneWay : List Advertisement → Vertex → Vertex → Bool → Type 0
IsOneWay adverts v w one_way = IsTrue one_way ↔ (AreJoined adverts v w → ⊥)

-- the value shows a link of this kind, and whether its other end does not advertise it
abbrev pub TellsKind : List Advertisement → RouterId → Link → LinkKind → Data → Type 0
TellsKind adverts router link PointToPoint d =
    (one_way : Bool)
    × IsOneWay adverts (vertex.Router router) (vertex.Router (record { 0 = link.id })) one_way
    × (d ≡ way_data (codes "router") link one_way)
TellsKind adverts router link Transit d =
    (one_way : Bool) × IsOneWay adverts (vertex.Router router) (vertex.Network link.id) one_way
    × (d ≡ way_data (codes "network") link one_way)
TellsKind adverts router link Stub d = d ≡ stub_data link
TellsKind adverts router link Virtual d = d ≡ virtual_data link.id

-- the value shows a link of a router-LSA
abbrev pub TellsLink : List Advertisement → RouterId → Link → Data → Type 0
TellsLink adverts router link d = TellsKind adverts router link link.kind d

-- ---- routers of a network

-- the value of a router that is attached to a network
abbrev pub member_data : RouterId → Bool → Data
member_data router one_way =
    object
    (member (codes "one_way") (boolean one_way)
    (member (codes "router") (string (number_text router.0)) no_members))

-- the value shows an attached router, and whether its own LSA does not name the network (RFC 2328,
-- section 12.4.2)
abbrev pub TellsAttached : List Advertisement → ℕ → RouterId → Data → Type 0
TellsAttached adverts n router d =
    (one_way : Bool) × IsOneWay adverts (vertex.Network n) (vertex.Router router) one_way
    × (d ≡ member_data router one_way)

-- ---- an LSA

-- what each has: its age, LS sequence number and checksum
abbrev pub instance_data : ℕ → Instance → Members
instance_data age i =
    member (codes "age") (number (unsigned age))
    (member (codes "number") (string (floor_text i.number))
    (member (codes "sum") (string (hexadecimal 4 i.sum)) no_members))

-- a router-LSA: its age, the letters of its flags, its links, LS sequence number and checksum, and
-- whose it is
abbrev pub router_data : RouterId → ℕ → Instance → ℕ → Data → Data
router_data router age i flags links =
    object
    (member (codes "age") (number (unsigned age))
    (member (codes "flags") (string (flag_letters flags))
    (member (codes "links") links
    (member (codes "lsa") (string (codes "router"))
    (member (codes "number") (string (floor_text i.number))
    (member (codes "router") (string (number_text router.0))
    (member (codes "sum") (string (hexadecimal 4 i.sum)) no_members)))))))

-- a network-LSA: its age, the routers that it names, its Link State ID, number, prefix, router and
-- sum, and whether another LSA is used for its network
abbrev pub network_data : NetworkName → ℕ → Instance → Data → Bool → Data
network_data name age i attached unused =
    object
    (member (codes "age") (number (unsigned age))
    (member (codes "attached") attached
    (member (codes "id") (string (number_text name.id.0))
    (member (codes "lsa") (string (codes "network"))
    (member (codes "number") (string (floor_text i.number))
    (member (codes "prefix") (string (prefix_under name.id.0 name.mask))
    (member (codes "router") (string (number_text name.router.0))
    (member (codes "sum") (string (hexadecimal 4 i.sum))
    (member (codes "unused") (boolean unused) no_members)))))))))

-- the value shows a router-LSA and its links in order
abbrev pub TellsRouter : List Advertisement → List ℕ → Data → Type 0
TellsRouter adverts lsa d =
    (links : Data) × IsArray (TellsLink adverts (key_of lsa).router) (links_of lsa) links
    × (d
    ≡ router_data (key_of lsa).router (header_of lsa).age (instance_of lsa) (flags_of lsa) links)

-- the value shows a network-LSA, its attached routers in order, and whether another LSA is used for
-- the network
abbrev pub TellsNetwork : List Advertisement → List ℕ → Data → Type 0
TellsNetwork adverts lsa d =
    (attached : Data) × (unused : Bool)
    × IsArray (TellsAttached adverts (key_of lsa).id) (attached_of lsa) attached
    × (IsTrue unused ↔ (StandsFor adverts (key_of lsa).id (key_of lsa).router → ⊥))
    × (d ≡ network_data (network_name_of lsa) (header_of lsa).age (instance_of lsa) attached unused)

-- the value shows an LSA of this kind
abbrev pub TellsLsaKind : List Advertisement → List ℕ → Kind → Data → Type 0
TellsLsaKind adverts lsa kind.Router d = TellsRouter adverts lsa d
TellsLsaKind adverts lsa kind.Network d = TellsNetwork adverts lsa d

-- the value shows an LSA
abbrev pub TellsLsa : List Advertisement → List ℕ → Data → Type 0
TellsLsa adverts lsa d = TellsLsaKind adverts lsa (kind_of lsa) d

-- all of a listing, in order
abbrev pub TellsLsas : List Advertisement → List (List ℕ) → Data → Type 0
TellsLsas adverts lsas d = IsArray (TellsLsa adverts) lsas d

-- as a value on a line
abbrev pub SaysLsasInJson : List Advertisement → List (List ℕ) → List ℕ → Type 0
SaysLsasInJson adverts lsas text = (d : Data) × TellsLsas adverts lsas d × (text ≡ json_line d)
