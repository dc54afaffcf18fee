-- What differs, where a datagram is dropped for what it says (RFC 2328, sections 8.2, 10.5, 10.6).
use Rattle.std.specs.Prelude.{◌==◌, ◌&&◌, not, ℕ, List, ◌++◌, Option, None, Some, bit_and, codes, decimal, nat_lt, slice_get, if◌then◌else◌}
use Rattle.ospf_adjacency.specs.Adjacency.{is_broadcast}
use Rattle.ospf_area.specs.State.{AreaValue, LinkValue}
use Rattle.ospf_base.specs.Constants.{router_options}
use Rattle.ospf_base.specs.Text.{number_text}
use Rattle.ospf_base.specs.declared.ids.AreaId.{AreaId}
use Rattle.ospf_neighbour.specs.declared.iface.machine.Iface.{Iface}
use Rattle.ospf_packet.specs.Meaning.{BodyMeaning, Meaning, hello, description, request, update, acknowledgment}
use Rattle.ospf_packet.specs.declared.body.Description.{Description}
use Rattle.ospf_packet.specs.declared.body.Hello.{Hello}
use Rattle.ospf_views.specs.declared.detail.Detail.{Detail}
use Rattle.ospf_views.specs.declared.detail.Detail.TheVariants as detail

-- the first field in which a Hello does not agree with an interface, with
-- both values; none where it agrees
abbrev pub hello_detail : Iface → Hello → Option Detail
hello_detail i h =
    if not (h.hello_interval == i.settings.hello)
    then Some (detail.HelloInterval h.hello_interval i.settings.hello)
    else if not (h.dead_interval == i.settings.dead)
    then Some (detail.DeadInterval h.dead_interval i.settings.dead)
    else if not (bit_and h.options router_options == router_options)
    then Some (detail.Options h.options)
    else if is_broadcast i && not (h.mask == i.settings.mask)
    then Some (detail.Mask h.mask i.settings.mask)
    else None

-- a Database Description of an MTU over the interface's
abbrev pub mtu_detail : ℕ → Description → Option Detail
mtu_detail mtu d = if nat_lt mtu d.mtu then Some (detail.Mtu d.mtu mtu) else None

-- what differs by the body of a packet
abbrev pub body_detail : LinkValue → BodyMeaning → Option Detail
body_detail l (hello fields heard) = hello_detail l.iface fields
body_detail l (description fields headers) = mtu_detail l.settings.mtu fields
body_detail l (request entries) = None
body_detail l (update lsas) = None
body_detail l (acknowledgment headers) = None

-- of what a packet says that comes on a link in this area, the first field that does not fit: the
-- area (8.2), or one of the body
abbrev pub said_detail : AreaId → LinkValue → Meaning → Option Detail
said_detail area l m =
    if m.area.0 == area.0 then body_detail l m.body else Some (detail.Area m.area area)

-- what differs, where there is the link and a packet was read
abbrev pub link_detail : AreaId → Option LinkValue → Option Meaning → Option Detail
link_detail area None m = None
link_detail area (Some l) None = None
link_detail area (Some l) (Some m) = said_detail area l m

-- on a link of a router that may have stopped
abbrev pub detail_on : Option AreaValue → ℕ → Option Meaning → Option Detail
detail_on None link m = None
detail_on (Some s) link m = link_detail s.area (slice_get s.links link) m

-- the field, and its values in the datagram (there) and at this router (here)
abbrev pub detail_text : Detail → List ℕ
detail_text (detail.Area there here) =
    codes "area " ++ number_text there.0 ++ codes " there, " ++ number_text here.0 ++ codes " here"
detail_text (detail.HelloInterval there here) =
    codes "HelloInterval " ++ decimal there ++ codes " there, " ++ decimal here ++ codes " here"
detail_text (detail.DeadInterval there here) =
    codes "RouterDeadInterval " ++ decimal there ++ codes " there, " ++ decimal here
    ++ codes " here"
detail_text (detail.Options there) =
    codes "Options " ++ decimal there ++ codes " there, " ++ decimal router_options ++ codes " here"
detail_text (detail.Mask there here) =
    codes "mask " ++ number_text there ++ codes " there, " ++ number_text here ++ codes " here"
detail_text (detail.Mtu there here) =
    codes "MTU " ++ decimal there ++ codes " there, " ++ decimal here ++ codes " here"
