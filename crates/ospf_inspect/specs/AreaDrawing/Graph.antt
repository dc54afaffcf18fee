-- A listing as a drawing in the language of Graphviz: a box for each router and transit network,
-- and a line for each link between them.
use Rattle.std.specs.Prelude.{ℕ, ◌==◌, ◌&&◌, nat_lt, Bool, true, false, cond, List, [], ◌∷◌, ◌++◌, Option, None, Some, bit_and, codes, count_ones, decimal, drop, find, flat_map, if◌then◌else◌, max, not, reverse, zip}
use Rattle.std.specs.List.{list_any}
use Rattle.ospf_base.specs.Bytes.{number_at}
use Rattle.ospf_base.specs.Text.{number_text}
use Rattle.ospf_base.specs.declared.ids.Kind.{Kind}
use Rattle.ospf_base.specs.declared.ids.Kind.TheVariants.{Router, Network}
use Rattle.ospf_base.specs.declared.ids.RouterId.{RouterId}
use Rattle.ospf_lsa.specs.Lsa.{kind_of, links_of, attached_of, network_mask_of, type_of}
use Rattle.ospf_lsa.specs.declared.link.Link.{Link}
use Rattle.ospf_lsa.specs.declared.link.LinkKind.{LinkKind}
use Rattle.ospf_lsa.specs.declared.link.LinkKind.TheVariants.{PointToPoint, Transit, Stub, Virtual}
use Rattle.ospf_graph.specs.Advertisements.{is_transit_to}

-- ---- names

-- a router, by its Router ID
abbrev pub router_node : ℕ → List ℕ
router_node router = codes "\"" ++ number_text router ++ codes "\""

-- a transit network, by its Link State ID, the address of its Designated Router
abbrev pub network_node : ℕ → List ℕ
network_node id = codes "\"network " ++ number_text id ++ codes "\""

-- the addresses under a mask: the first of them, a slash and the ones of the mask
abbrev pub prefix_under : ℕ → ℕ → List ℕ
prefix_under address mask =
    number_text (bit_and address mask) ++ codes "/" ++ decimal (count_ones mask)

-- ---- what the other end advertises

-- the router-LSA of a router
abbrev pub is_lsa_of_router : ℕ → List ℕ → Bool
is_lsa_of_router router lsa = (type_of lsa == 1) && (number_at 8 4 lsa == router)

-- a network-LSA of a Link State ID
abbrev pub is_lsa_of_network : ℕ → List ℕ → Bool
is_lsa_of_network id lsa = (type_of lsa == 2) && (number_at 4 4 lsa == id)

-- the links of an LSA, if there is one
abbrev pub links_in_some : Option (List ℕ) → List Link
links_in_some None = []
links_in_some (Some lsa) = links_of lsa

-- the links of a router; none where its LSA is not listed
abbrev pub links_listed_by : List (List ℕ) → ℕ → List Link
links_listed_by lsas router = links_in_some (find (is_lsa_of_router router) lsas)

-- the routers that an LSA names, if there is one
abbrev pub routers_in_some : Option (List ℕ) → List RouterId
routers_in_some None = []
routers_in_some (Some lsa) = attached_of lsa

-- the routers that a network names; none if it has no LSA. If several LSAs have its Link State ID,
-- the last one is used, which is the one with the largest Advertising Router
abbrev pub attached_to : List (List ℕ) → ℕ → List RouterId
attached_to lsas id = routers_in_some (find (is_lsa_of_network id) (reverse lsas))

-- a network names a router
abbrev pub names_router : List (List ℕ) → ℕ → ℕ → Bool
names_router lsas id router = list_any (λ r. r.0 == router) (attached_to lsas id)

-- a router has a link to a transit network
abbrev pub links_to_network : List (List ℕ) → ℕ → ℕ → Bool
links_to_network lsas router id = list_any (is_transit_to id) (links_listed_by lsas router)

-- type 1 of links (RFC 2328, appendix A.4.2)
abbrev pub is_point_to_point : LinkKind → Bool
is_point_to_point PointToPoint = true
is_point_to_point Transit = false
is_point_to_point Stub = false
is_point_to_point Virtual = false

-- a link of type 1 to a router
abbrev pub is_drawn_link_to : ℕ → Link → Bool
is_drawn_link_to router link = is_point_to_point link.kind && (link.id == router)

-- a router has a link of type 1 to another, as an edge back needs (section 16.1, (2) (b))
abbrev pub leads_back : List (List ℕ) → ℕ → ℕ → Bool
leads_back lsas other router =
    list_any (is_drawn_link_to router) (links_listed_by lsas other)

-- ---- which links of type 1 are one

-- type 3 of links
abbrev pub is_stub : LinkKind → Bool
is_stub PointToPoint = false
is_stub Transit = false
is_stub Stub = true
is_stub Virtual = false

-- a stub network that holds an address
abbrev pub is_subnet_at : ℕ → Link → Bool
is_subnet_at address link =
    is_stub link.kind && (bit_and address link.link_data == bit_and link.id link.link_data)

-- the longer of a mask and that of a link, if this is a stub network that holds the address
abbrev pub mask_with : ℕ → ℕ → Link → ℕ
mask_with address mask link =
    if is_subnet_at address link then max mask link.link_data else mask

-- the longest of a mask and those of the links that do
abbrev pub longest_mask : ℕ → ℕ → List Link → ℕ
longest_mask address mask [] = mask
longest_mask address mask (link ∷ rest) = longest_mask address (mask_with address mask link) rest

-- the mask of an address in the longest stub network of its router that holds it; 0 where none does
abbrev pub subnet_mask : List Link → ℕ → ℕ
subnet_mask links address = longest_mask address 0 links

-- two addresses with these masks are of one subnet
abbrev pub is_one_subnet : (address mask other other_mask : ℕ) → Bool
is_one_subnet address mask other other_mask =
    (mask == other_mask) && (not (mask == 0) && (bit_and address mask == bit_and other mask))

-- one of these links leads back to a router, in the subnet of this mask of a link there
abbrev pub is_mate : ℕ → List Link → Link → ℕ → Link → Bool
is_mate router there link mask back =
    is_drawn_link_to router back
    && is_one_subnet link.link_data mask back.link_data (subnet_mask there back.link_data)

-- the first that does
abbrev pub mate_of : ℕ → List Link → Link → ℕ → Option Link
mate_of router there link mask = find (is_mate router there link mask) there

-- exactly one link leads to a router: one was found before these, or one of these does
abbrev pub has_one_to : ℕ → (found : Bool) → List Link → Bool
has_one_to router found [] = found
has_one_to router found (link ∷ rest) =
    if is_drawn_link_to router link
    then (if found then false else has_one_to router true rest)
    else has_one_to router found rest

-- a router has one link to another, and this has one back
abbrev pub have_one_link : (router : ℕ) → List Link → (other : ℕ) → List Link → Bool
have_one_link router here other there =
    has_one_to other false here && has_one_to router false there

-- which of the links there is one with a link here: the only link back of an only link, or the one
-- in its subnet; none where that is not known
abbrev pub back_among : ℕ → List Link → List Link → Link → Option Link
back_among router here there link =
    if have_one_link router here link.id there then find (is_drawn_link_to router) there
    else mate_of router there link (subnet_mask here link.link_data)

-- the other end of a link of type 1 of a router that has these links
abbrev pub back_of : List (List ℕ) → ℕ → List Link → Link → Option Link
back_of lsas router here link = back_among router here (links_listed_by lsas link.id) link

-- ---- boxes

-- what a link adds to the box: `\n` begins a line of a label
abbrev pub stub_of_kind : Link → LinkKind → List ℕ
stub_of_kind link Stub =
    codes "\\n" ++ prefix_under link.id link.link_data ++ codes " cost " ++ decimal link.metric
stub_of_kind link PointToPoint = []
stub_of_kind link Transit = []
stub_of_kind link Virtual = []

-- a stub network in the box of its router, on a line of its own
abbrev pub drawn_stub_text : Link → List ℕ
drawn_stub_text link = stub_of_kind link link.kind

-- all of a router
abbrev pub stub_texts : List Link → List ℕ
stub_texts links = flat_map drawn_stub_text links

-- a router, with its stub networks
abbrev pub drawn_router_line : ℕ → List Link → List ℕ
drawn_router_line router links =
    codes "  " ++ router_node router ++ codes " [shape=box, label=\"" ++ number_text router
    ++ stub_texts links ++ codes "\"];\n"

-- a transit network, by its prefix
abbrev pub drawn_network_line : ℕ → ℕ → List ℕ
drawn_network_line id mask =
    codes "  " ++ network_node id ++ codes " [shape=box, style=\"filled,rounded\", label=\""
    ++ prefix_under id mask ++ codes "\"];\n"

-- a router that does not run
abbrev pub stopped_line : RouterId → List ℕ
stopped_line router =
    codes "  " ++ router_node router.0 ++ codes " [shape=box, fillcolor=lightgrey];\n"

-- ---- lines between boxes

-- a link between routers that both advertise, with the cost at each end
abbrev pub joined_line : ℕ → ℕ → ℕ → ℕ → List ℕ
joined_line from to cost back =
    codes "  " ++ router_node from ++ codes " -- " ++ router_node to ++ codes " [taillabel="
    ++ decimal cost ++ codes ", headlabel=" ++ decimal back ++ codes "];\n"

-- a link that only its router advertises
abbrev pub told_line : ℕ → List ℕ → ℕ → List ℕ
told_line from to cost =
    codes "  " ++ router_node from ++ codes " -- " ++ to ++ codes " [taillabel=" ++ decimal cost
    ++ codes ", dir=forward, style=dashed];\n"

-- a router on a network, as both advertise, with the cost at the router
abbrev pub member_line : ℕ → ℕ → ℕ → List ℕ
member_line router id cost =
    codes "  " ++ router_node router ++ codes " -- " ++ network_node id ++ codes " [taillabel="
    ++ decimal cost ++ codes "];\n"

-- a router that a network alone names
abbrev pub named_line : ℕ → ℕ → List ℕ
named_line id router =
    codes "  " ++ network_node id ++ codes " -- " ++ router_node router
    ++ codes " [dir=forward, style=dashed];\n"

-- one line for both ends, at the router with the smaller Router ID
abbrev pub both_line : ℕ → Link → ℕ → List ℕ
both_line router link back =
    cond (nat_lt link.id router) [] (joined_line router link.id link.metric back)

-- a link to a router that has links back, of which it is not known which one is the other end
abbrev pub own_line : ℕ → ℕ → ℕ → List ℕ
own_line from to cost =
    codes "  " ++ router_node from ++ codes " -- " ++ router_node to ++ codes " [taillabel="
    ++ decimal cost ++ codes "];\n"

-- a link to a router without its other end: with or without a link back
abbrev pub lone_line : ℕ → Link → Bool → List ℕ
lone_line router link true = own_line router link.id link.metric
lone_line router link false = told_line router (router_node link.id) link.metric

-- a link to a router, which leads back or does not, with its other end, if that is known
abbrev pub point_line : ℕ → Link → Bool → Option Link → List ℕ
point_line router link leads None = lone_line router link leads
point_line router link leads (Some back) = both_line router link back.metric

-- a link to a transit network, which names the router or does not
abbrev pub transit_line : ℕ → Link → Bool → List ℕ
transit_line router link true = member_line router link.id link.metric
transit_line router link false = told_line router (network_node link.id) link.metric

-- the line of a link of a router with these links, by its type: stub networks are listed in the
-- box, and links of type 4 are not drawn
abbrev pub line_of_kind : List (List ℕ) → ℕ → List Link → Link → LinkKind → List ℕ
line_of_kind lsas router here link PointToPoint =
    point_line router link (leads_back lsas link.id router) (back_of lsas router here link)
line_of_kind lsas router here link Transit =
    transit_line router link (names_router lsas link.id router)
line_of_kind lsas router here link Stub = []
line_of_kind lsas router here link Virtual = []

-- the same by the link
abbrev pub drawn_link_line : List (List ℕ) → ℕ → List Link → Link → List ℕ
drawn_link_line lsas router here link = line_of_kind lsas router here link link.kind

-- the lines of such links
abbrev pub drawn_link_lines : List (List ℕ) → ℕ → List Link → List Link → List ℕ
drawn_link_lines lsas router here links = flat_map (drawn_link_line lsas router here) links

-- a router that a network names, and that has a link there or has none
abbrev pub named_unless : ℕ → RouterId → Bool → List ℕ
named_unless id router true = []
named_unless id router false = named_line id router.0

-- a router that a network names (appendix A.4.3): its own link has the line, if it has one there
abbrev pub attached_line : List (List ℕ) → ℕ → RouterId → List ℕ
attached_line lsas id router = named_unless id router (links_to_network lsas router.0 id)

-- all that it names
abbrev pub attached_lines : List (List ℕ) → ℕ → List RouterId → List ℕ
attached_lines lsas id routers = flat_map (attached_line lsas id) routers

-- ---- a walk

-- from a router to the next that a walk meets
abbrev pub step_line : RouterId × RouterId → List ℕ
step_line step =
    codes "  " ++ router_node step.0.0 ++ codes " -- " ++ router_node step.1.0
    ++ codes " [dir=forward, color=red, penwidth=2];\n"

-- from each router that it meets to the next one
abbrev pub steps_of : List RouterId → List (RouterId × RouterId)
steps_of walked = zip walked (drop 1 walked)

-- ---- a listing

-- a router and its links
abbrev pub drawn_router_lines : List (List ℕ) → ℕ → List Link → List ℕ
drawn_router_lines lsas router links =
    drawn_router_line router links ++ drawn_link_lines lsas router links links

-- a network and the routers that it names
abbrev pub network_lines : List (List ℕ) → ℕ → ℕ → List RouterId → List ℕ
network_lines lsas id mask routers = drawn_network_line id mask ++ attached_lines lsas id routers

-- a router-LSA, drawn by its Advertising Router, and a network-LSA, drawn by its Link State ID
abbrev pub lines_of_kind : List (List ℕ) → List ℕ → Kind → List ℕ
lines_of_kind lsas lsa Router = drawn_router_lines lsas (number_at 8 4 lsa) (links_of lsa)
lines_of_kind lsas lsa Network =
    network_lines lsas (number_at 4 4 lsa) (network_mask_of lsa) (attached_of lsa)

-- the lines of an LSA
abbrev pub lsa_lines : List (List ℕ) → List ℕ → List ℕ
lsa_lines lsas lsa = lines_of_kind lsas lsa (kind_of lsa)

-- how all is laid out: boxes that lie apart, and lines that lead round them; what has no line of
-- its own is plain text
abbrev pub graph_head : List ℕ
graph_head =
    codes
    "graph area {\n  graph [layout=neato, overlap=false, splines=true, sep=\"+30\", outputorder=edgesfirst];\n"
    ++ codes "  node [shape=plaintext, style=filled, fillcolor=white];\n"

-- the LSAs in their order, the routers that do not run, and the walk that met these
abbrev pub graph_text : List (List ℕ) → (stopped walked : List RouterId) → List ℕ
graph_text lsas stopped walked =
    graph_head ++ flat_map (lsa_lines lsas) lsas ++ flat_map stopped_line stopped
    ++ flat_map step_line (steps_of walked) ++ codes "}\n"
