-- Why a part of an area is not reached, as far as its LSAs show.
use Rattle.std.specs.Prelude.{◌==◌, ◌&&◌, ◌++◌, not, ℕ, Bool, true, false, List, [], Option, None, Some, codes, find, option_map}
use Rattle.std.specs.List.{list_any}
use Rattle.ospf_base.specs.Text.{number_text}
use Rattle.ospf_base.specs.declared.ids.Kind.{Kind}
use Rattle.ospf_base.specs.declared.ids.Kind.TheVariants as kind
use Rattle.ospf_base.specs.declared.ids.RouterId.{RouterId}
use Rattle.ospf_lsa.specs.Lsa.{attached_of, key_of, kind_of, links_of}
use Rattle.ospf_lsa.specs.declared.link.Link.{Link}
use Rattle.ospf_lsa.specs.declared.link.LinkKind.{LinkKind}
use Rattle.ospf_lsa.specs.declared.link.LinkKind.TheVariants.{PointToPoint, Transit, Stub, Virtual}

-- ---- virtual links

-- a virtual link (RFC 2328, appendix A.4.2)
abbrev pub is_virtual_kind : LinkKind → Bool
is_virtual_kind PointToPoint = false
is_virtual_kind Transit = false
is_virtual_kind Stub = false
is_virtual_kind Virtual = true

-- by its kind
abbrev pub is_virtual : Link → Bool
is_virtual link = is_virtual_kind link.kind

-- a router-LSA with one
abbrev pub has_virtual_by : Kind → List ℕ → Bool
has_virtual_by kind.Router lsa = list_any is_virtual (links_of lsa)
has_virtual_by kind.Network lsa = false

-- by the kind of the LSA
abbrev pub has_virtual : List ℕ → Bool
has_virtual lsa = has_virtual_by (kind_of lsa) lsa

-- ---- point-to-point at one end, broadcast at the other

-- a point-to-point link to this router
abbrev pub is_to_by : LinkKind → RouterId → Link → Bool
is_to_by PointToPoint router link = link.id == router.0
is_to_by Transit router link = false
is_to_by Stub router link = false
is_to_by Virtual router link = false

-- by the kind of the link
abbrev pub is_to : RouterId → Link → Bool
is_to router link = is_to_by link.kind router link

-- the router-LSA of a router, with a point-to-point link to another
abbrev pub points_by : Kind → RouterId → RouterId → List ℕ → Bool
points_by kind.Router from to lsa =
    ((key_of lsa).router.0 == from.0) && list_any (is_to to) (links_of lsa)
points_by kind.Network from to lsa = false

-- by the kind of the LSA
abbrev pub points : RouterId → RouterId → List ℕ → Bool
points from to lsa = points_by (kind_of lsa) from to lsa

-- a network-LSA of a router, that attaches another
abbrev pub attaches_by : Kind → RouterId → RouterId → List ℕ → Bool
attaches_by kind.Router dr router lsa = false
attaches_by kind.Network dr router lsa =
    ((key_of lsa).router.0 == dr.0) && list_any (λ r. r.0 == router.0) (attached_of lsa)

-- by the kind of the LSA
abbrev pub attaches : RouterId → RouterId → List ℕ → Bool
attaches dr router lsa = attaches_by (kind_of lsa) dr router lsa

-- the other end has no point-to-point link back, and is the Designated Router of a network to which
-- the router is attached
abbrev pub is_unlike : List (List ℕ) → RouterId → RouterId → Bool
is_unlike listing router other =
    not (list_any (points other router) listing) && list_any (attaches other router) listing

-- a point-to-point link of a router to such an end
abbrev pub is_mixed_by : LinkKind → List (List ℕ) → RouterId → Link → Bool
is_mixed_by PointToPoint listing router link =
    is_unlike listing router (record { 0 = link.id })
is_mixed_by Transit listing router link = false
is_mixed_by Stub listing router link = false
is_mixed_by Virtual listing router link = false

-- by the kind of the link
abbrev pub is_mixed : List (List ℕ) → RouterId → Link → Bool
is_mixed listing router link = is_mixed_by link.kind listing router link

-- a router-LSA with one
abbrev pub has_mixed_by : Kind → List (List ℕ) → List ℕ → Bool
has_mixed_by kind.Router listing lsa =
    list_any (is_mixed listing (key_of lsa).router) (links_of lsa)
has_mixed_by kind.Network listing lsa = false

-- by the kind of the LSA
abbrev pub has_mixed : List (List ℕ) → List ℕ → Bool
has_mixed listing lsa = has_mixed_by (kind_of lsa) listing lsa

-- ---- what is said

-- the router of the first LSA that passes
abbrev pub first_router : (List ℕ → Bool) → List (List ℕ) → Option RouterId
first_router p listing = option_map (λ lsa. (key_of lsa).router) (find p listing)

-- the first router with a virtual link, if there is one
abbrev pub virtual_line : Option RouterId → List ℕ
virtual_line None = []
virtual_line (Some r) = number_text r.0 ++ codes ": virtual link: routes over it are not computed\n"

-- the first router with a link that is point-to-point here and broadcast there, if there is one
abbrev pub mixed_line : Option RouterId → List ℕ
mixed_line None = []
mixed_line (Some r) =
    number_text r.0
    ++ codes ": point-to-point link to a broadcast interface: no route leads over it\n"

-- both
abbrev pub apart_text : List (List ℕ) → List ℕ
apart_text listing =
    virtual_line (first_router has_virtual listing)
    ++ mixed_line (first_router (has_mixed listing) listing)
