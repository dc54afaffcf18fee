-- Links that a next hop may use (RFC 2328, section 16.1).
use Rattle.std.specs.Prelude.{◌≡◌, ◌≤◌, ℕ, List, Option, None, Some, Contains, nat_lt, if◌then◌else◌}
use Rattle.ospf_base.specs.declared.ids.RouterId.{RouterId}
use Rattle.ospf_lsa.specs.declared.link.Link.{Link}
use Rattle.ospf_lsa.specs.declared.link.LinkKind.{LinkKind}
use Rattle.ospf_graph.specs.declared.hop.NextHop.{NextHop}
use Rattle.ospf_graph.specs.declared.hop.NextHop.TheVariants.{Attached, PointToPoint, Lan}
use Rattle.ospf_graph.specs.Advertisements.{Advertisement, HasLink, IsAttached}

-- the link is of this kind and has this Link ID
abbrev pub IsTo : LinkKind → ℕ → Link → Type 0
IsTo kind id l = (l.kind ≡ kind) × (l.id ≡ id)

-- and one of the links is
abbrev pub NamesLinkTo : List Link → LinkKind → ℕ → Type 0
NamesLinkTo links kind id = (l : Link) × Contains links l × IsTo kind id l

-- the router's LSA has such a link
abbrev pub HasLinkTo : List Advertisement → RouterId → LinkKind → ℕ → Type 0
HasLinkTo adverts router kind id =
    (link_data metric : ℕ) × HasLink adverts router kind id link_data metric

-- a link of router a leads where the hop does: from the hop's address to its router, which links
-- back, or to a network that names both and that the hop's router names
abbrev pub Leads : List Advertisement → RouterId → NextHop → Link → Type 0
Leads adverts a Attached l = ⊥
Leads adverts a (PointToPoint local b) l =
    (l.kind ≡ LinkKind.PointToPoint) × (l.id ≡ b.0) × (l.link_data ≡ local.0)
    × HasLinkTo adverts b LinkKind.PointToPoint a.0
Leads adverts a (Lan local b _) l =
    (l.kind ≡ LinkKind.Transit) × (l.link_data ≡ local.0) × IsAttached adverts l.id a
    × IsAttached adverts l.id b × HasLinkTo adverts b LinkKind.Transit l.id

-- the least metric of the links that the test takes, if it takes one
abbrev pub IsLeastOf : (Link → Type 0) → List Link → Option ℕ → Type 0
IsLeastOf P links None = (l : Link) → Contains links l → P l → ⊥
IsLeastOf P links (Some least) =
    ((l : Link) × Contains links l × P l × (l.metric ≡ least))
    × ((l : Link) → Contains links l → P l → least ≤ l.metric)

-- the lesser of a number and the least so far
abbrev pub lesser_of : Option ℕ → ℕ → ℕ
lesser_of None metric = metric
lesser_of (Some least) metric = if nat_lt least metric then least else metric
