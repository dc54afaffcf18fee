-- The LSAs of a listing in words (RFC 2328, sections 12.1, 12.4.1 and 12.4.2), and which of
-- their links lead one way alone.
use Rattle.std.specs.Prelude.{◌≡◌, ◌⊎◌, ◌==◌, ℕ, List, [], ◌++◌, Contains, bit_and, codes, decimal, if◌then◌else◌, slice_index}
use Rattle.ospf_base.specs.Text.{number_text}
use Rattle.ospf_base.specs.declared.ids.Instance.{Instance}
use Rattle.ospf_base.specs.declared.ids.Kind.{Kind}
use Rattle.ospf_base.specs.declared.ids.Kind.TheVariants as kind
use Rattle.ospf_base.specs.declared.ids.RouterId.{RouterId}
use Rattle.ospf_lsa.specs.Header.{header_of}
use Rattle.ospf_lsa.specs.Lsa.{attached_of, instance_of, key_of, kind_of, links_of, network_mask_of}
use Rattle.ospf_lsa.specs.declared.link.Link.{Link}
use Rattle.ospf_lsa.specs.declared.link.LinkKind.{LinkKind}
use Rattle.ospf_lsa.specs.declared.link.LinkKind.TheVariants.{PointToPoint, Transit, Stub, Virtual}
use Rattle.ospf_graph.specs.Advertisements.{Advertisement}
use Rattle.ospf_graph.specs.Graph.{IsEdgeBetween}
use Rattle.ospf_graph.specs.declared.graph.Edge.{Edge}
use Rattle.ospf_graph.specs.declared.graph.Vertex.{Vertex}
use Rattle.ospf_graph.specs.declared.graph.Vertex.TheVariants as vertex
use Rattle.ospf_graph.specs.EdgeLists.Given.{StandsFor}
use Rattle.ospf_inspect.specs.AreaDrawing.Graph.{prefix_under}
use Rattle.ospf_inspect.specs.declared.lsas.NetworkName.{NetworkName}
use Rattle.ospf_inspect.specs.declared.lsas.LinkWay.{LinkWay}
use Rattle.ospf_script.specs.Texts.{floor_text, hexadecimal}
use Rattle.ospf_inspect.specs.Lines.{AreLines}

-- ---- marks

-- nothing where this holds, and else this word
abbrev pub IsMarkUnless : Type 0 → List ℕ → List ℕ → Type 0
IsMarkUnless holds word mark = (holds × (mark ≡ [])) ⊎ ((holds → ⊥) × (mark ≡ word))

-- the mark of a link that its other end does not advertise (16.1, step 2 b)
abbrev pub one_way : List ℕ
one_way = codes " one-way"

-- the mark of what no route rests on
abbrev pub unused : List ℕ
unused = codes " unused"

-- ---- both ways

-- one of these edges leads from the one to the other
abbrev pub AreJoinedBy : List Edge → Vertex → Vertex → Type 0
AreJoinedBy edges v w = (e : Edge) × Contains edges e × (e.from ≡ v) × (e.to ≡ w)

-- an edge of the graph leads there: the LSAs at both ends name each
-- other (section 16.1, step 2 (b))
abbrev pub AreJoined : List Advertisement → Vertex → Vertex → Type 0
AreJoined adverts v w = (cost link_data : ℕ) × IsEdgeBetween adverts v w cost link_data

-- ---- links of a router

-- where a link of type 1 or 2 leads, the address that it is from, and its cost
abbrev pub way_of : Link → LinkWay
way_of link =
    record { to = record { 0 = link.id }; from = record { 0 = link.link_data }; cost = link.metric }

-- a link's other end, the router's own address on it, and its cost
abbrev pub way_text : LinkWay → List ℕ
way_text way =
    number_text way.to.0 ++ codes " from " ++ number_text way.from.0 ++ codes " cost "
    ++ decimal way.cost

-- a link to a router or a transit network, and its mark
abbrev pub link_line : List ℕ → LinkWay → List ℕ → List ℕ
link_line what way mark = codes "  " ++ what ++ codes " " ++ way_text way ++ mark ++ codes "\n"

-- the line of a link to a stub network (12.4.1)
abbrev pub stub_text : Link → List ℕ
stub_text link =
    codes "  stub " ++ prefix_under link.id link.link_data ++ codes " cost " ++ decimal link.metric
    ++ codes "\n"

-- the line of a virtual link, which these calculations do not follow
abbrev pub virtual_text : ℕ → List ℕ
virtual_text to = codes "  virtual " ++ number_text to ++ codes " passed over\n"

-- what a link says by its kind: where it leads, marked where no edge does; a stub network; or a
-- virtual link, which is passed over
abbrev pub SaysOfKind : List Advertisement → RouterId → Link → LinkKind → List ℕ → Type 0
SaysOfKind adverts router link PointToPoint line =
    (mark : List ℕ)
    × IsMarkUnless
    (AreJoined adverts (vertex.Router router) (vertex.Router (record { 0 = link.id }))) one_way mark
    × (line ≡ link_line (codes "router") (way_of link) mark)
SaysOfKind adverts router link Transit line =
    (mark : List ℕ)
    × IsMarkUnless (AreJoined adverts (vertex.Router router) (vertex.Network link.id)) one_way mark
    × (line ≡ link_line (codes "network") (way_of link) mark)
SaysOfKind adverts router link Stub line = line ≡ stub_text link
SaysOfKind adverts router link Virtual line = line ≡ virtual_text link.id

-- the line says of a link of a router-LSA what it is and where it leads
abbrev pub SaysOfLink : List Advertisement → RouterId → Link → List ℕ → Type 0
SaysOfLink adverts router link line = SaysOfKind adverts router link link.kind line

-- ---- routers of a network

-- the line of a router that is attached to a network (12.4.2)
abbrev pub member_text : RouterId → List ℕ → List ℕ
member_text router mark = codes "  router " ++ number_text router.0 ++ mark ++ codes "\n"

-- a router that a network names, marked where no edge leads there
abbrev pub SaysOfAttached : List Advertisement → ℕ → RouterId → List ℕ → Type 0
SaysOfAttached adverts n router line =
    (mark : List ℕ)
    × IsMarkUnless (AreJoined adverts (vertex.Network n) (vertex.Router router)) one_way mark
    × (line ≡ member_text router mark)

-- ---- an LSA

-- its age, number and sum
abbrev pub instance_text : ℕ → Instance → List ℕ
instance_text age i =
    codes " age " ++ decimal age ++ codes " number " ++ floor_text i.number ++ codes " sum "
    ++ hexadecimal 4 i.sum

-- the flags of a router-LSA (RFC 2328, appendix A.4.2)
abbrev pub flags_of : List ℕ → ℕ
flags_of lsa = slice_index lsa 20

-- the letter of a flag, where it is set
abbrev pub letter_of : ℕ → ℕ → List ℕ → List ℕ
letter_of flags flag letter = if bit_and flags flag == 0 then [] else letter

-- the letters of the flags that are set: B of an area border router, E of an AS boundary router, V
-- of an end of a virtual link (A.4.2), and W of a wildcard multicast receiver (RFC 1584)
abbrev pub flag_letters : ℕ → List ℕ
flag_letters flags =
    letter_of flags 1 (codes "B") ++ letter_of flags 2 (codes "E") ++ letter_of flags 4 (codes "V")
    ++ letter_of flags 8 (codes "W")

-- these, where one is set
abbrev pub flags_text : ℕ → List ℕ
flags_text flags =
    if bit_and flags 15 == 0 then [] else codes " flags " ++ flag_letters flags

-- a router-LSA: whose it is
abbrev pub router_line : RouterId → ℕ → Instance → ℕ → List ℕ
router_line router age instance flags =
    codes "router " ++ number_text router.0 ++ instance_text age instance ++ flags_text flags
    ++ codes "\n"

-- what names a network-LSA: its Link State ID, mask and router
abbrev pub network_name_of : List ℕ → NetworkName
network_name_of lsa =
    record {
      id = record { 0 = (key_of lsa).id };
      mask = network_mask_of lsa;
      router = (key_of lsa).router;
    }

-- a network: its prefix, and the network-LSA that describes it
abbrev pub network_name_text : NetworkName → List ℕ
network_name_text name =
    prefix_under name.id.0 name.mask ++ codes " of " ++ number_text name.id.0 ++ codes " by "
    ++ number_text name.router.0

-- a network-LSA: its name, age, number and sum, and its mark
abbrev pub network_line : NetworkName → ℕ → Instance → List ℕ → List ℕ
network_line name age instance mark =
    codes "network " ++ network_name_text name ++ instance_text age instance ++ mark ++ codes "\n"

-- and its links in their order
abbrev pub SaysOfRouter : List Advertisement → List ℕ → List ℕ → Type 0
SaysOfRouter adverts lsa text =
    (lines : List ℕ) × AreLines (SaysOfLink adverts (key_of lsa).router) (links_of lsa) lines
    × (text
    ≡ router_line (key_of lsa).router (header_of lsa).age (instance_of lsa) (flags_of lsa) ++ lines)

-- marked if another LSA with its Link State ID is used for the network, and the routers that it
-- names
abbrev pub SaysOfNetwork : List Advertisement → List ℕ → List ℕ → Type 0
SaysOfNetwork adverts lsa text =
    (mark lines : List ℕ)
    × IsMarkUnless (StandsFor adverts (key_of lsa).id (key_of lsa).router) unused mark
    × AreLines (SaysOfAttached adverts (key_of lsa).id) (attached_of lsa) lines
    × (text
    ≡ network_line (network_name_of lsa) (header_of lsa).age (instance_of lsa) mark ++ lines)

-- the lines show an LSA of this kind
abbrev pub SaysOfLsaKind : List Advertisement → List ℕ → Kind → List ℕ → Type 0
SaysOfLsaKind adverts lsa kind.Router text = SaysOfRouter adverts lsa text
SaysOfLsaKind adverts lsa kind.Network text = SaysOfNetwork adverts lsa text

-- the lines show an LSA
abbrev pub SaysOfLsa : List Advertisement → List ℕ → List ℕ → Type 0
SaysOfLsa adverts lsa text = SaysOfLsaKind adverts lsa (kind_of lsa) text
