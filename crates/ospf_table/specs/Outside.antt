-- Routers at the border of an area, and the text about routes outside it, which are not computed.
use Rattle.std.specs.Prelude.{◌≡◌, ◌⊎◌, ◌==◌, ◌&&◌, ◌++◌, not, ℕ, Bool, false, List, [], Option, None, Some, Any, Contains, bit_and, codes, find, if◌then◌else◌, is_none, option_map, slice_index}
use Rattle.ospf_base.specs.Prefixes.{Holds}
use Rattle.ospf_base.specs.Text.{number_text}
use Rattle.ospf_base.specs.declared.ids.Addr.{Addr}
use Rattle.ospf_base.specs.declared.ids.Kind.{Kind}
use Rattle.ospf_base.specs.declared.ids.Kind.TheVariants.{Router, Network}
use Rattle.ospf_base.specs.declared.ids.RouterId.{RouterId}
use Rattle.ospf_graph.specs.declared.route.Route.{Route}
use Rattle.ospf_lsa.specs.Lsa.{key_of, kind_of}
use Rattle.ospf_table.specs.Apart.{apart_text}
use Rattle.ospf_table.specs.declared.outside.Outside.{Outside}

-- ---- which routers

-- the flag of an area border router (RFC 2328, appendix A.4.2)
abbrev pub b_flag : ℕ
b_flag = 1

-- the flag of an AS boundary router
abbrev pub e_flag : ℕ
e_flag = 2

-- a router-LSA in which this flag is set
abbrev pub has_flag_by : Kind → ℕ → List ℕ → Bool
has_flag_by Router flag lsa = not (bit_and (slice_index lsa 20) flag == 0)
has_flag_by Network flag lsa = false

-- by the kind of the LSA
abbrev pub has_flag : ℕ → List ℕ → Bool
has_flag flag lsa = has_flag_by (kind_of lsa) flag lsa

-- the router of the first listed router-LSA with this flag
abbrev pub first_with : ℕ → List (List ℕ) → Option RouterId
first_with flag listing = option_map (λ lsa. (key_of lsa).router) (find (has_flag flag) listing)

-- the first AS boundary router and the first area border router that are listed
abbrev pub outside_of : List (List ℕ) → Outside
outside_of listing =
    record { boundary = first_with e_flag listing; border = first_with b_flag listing }

-- neither is
abbrev pub is_nowhere : Outside → Bool
is_nowhere o = is_none o.boundary && is_none o.border

-- ---- the text about them

-- that routes to other areas, or through them, are not computed (section 16.2)
abbrev pub border_words : Option RouterId → List ℕ
border_words None = []
border_words (Some b) =
    number_text b.0 ++ codes ": border router: routes to and through other areas are not computed"

-- an AS boundary router, which another follows
abbrev pub boundary_words : RouterId → List ℕ
boundary_words e = number_text e.0 ++ codes ": AS boundary router, "

-- that no routes outside the area are computed (sections 16.2 and 16.4)
abbrev pub other_words : RouterId → List ℕ
other_words b =
    number_text b.0 ++ codes ": border router: routes outside the area are not computed"

-- an AS boundary router alone, by which external routes go (16.4), or both
abbrev pub both_words : RouterId → Option RouterId → List ℕ
both_words e None =
    number_text e.0 ++ codes ": AS boundary router: external routes are not computed"
both_words e (Some b) = boundary_words e ++ other_words b

-- of whichever there is
abbrev pub words_of : Option RouterId → Option RouterId → List ℕ
words_of None border = border_words border
words_of (Some e) border = both_words e border

-- by the routers
abbrev pub outside_words : Outside → List ℕ
outside_words o = words_of o.boundary o.border

-- the line of it, where one is listed
abbrev pub outside_text : Outside → List ℕ
outside_text o = if is_nowhere o then [] else outside_words o ++ codes "\n"

-- ---- when it is said

-- no route of the table holds the address
abbrev pub IsMissing : List Route → ℕ → Type 0
IsMissing table address = (r : Route) → Contains table r → Holds r.prefix address → ⊥

-- for one of the addresses the table has no route
abbrev pub MissesOne : List Route → List Addr → Type 0
MissesOne table addresses = Any (λ a. IsMissing table a.0) addresses

-- why an address may have no route, as far as the LSAs show
abbrev pub reasons_text : List (List ℕ) → List ℕ
reasons_text listing = outside_text (outside_of listing) ++ apart_text listing

-- that, where an address is asked for that the table has no route for
abbrev pub IsOutsideWarning : List (List ℕ) → List Route → List Addr → List ℕ → Type 0
IsOutsideWarning listing table addresses text =
    (MissesOne table addresses × (text ≡ reasons_text listing))
    ⊎ ((MissesOne table addresses → ⊥) × (text ≡ []))
