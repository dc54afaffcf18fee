-- What the other end of a link says of itself that keeps two routers apart, though neither end
-- would drop it (RFC 2328, sections 9.1 and 10.6).
use Rattle.std.specs.Prelude.{◌==◌, not, ℕ, List, [], ◌++◌, Option, None, Some, codes, decimal, nat_lt, slice_get, if◌then◌else◌}
use Rattle.ospf_adjacency.specs.Adjacency.{is_broadcast}
use Rattle.ospf_area.specs.Outputs.{SentValue}
use Rattle.ospf_area.specs.State.{AreaValue, LinkValue}
use Rattle.ospf_base.specs.Addresses.{nowhere}
use Rattle.ospf_base.specs.Text.{number_text}
use Rattle.ospf_base.specs.declared.ids.Addr.{Addr}
use Rattle.ospf_neighbour.specs.declared.iface.machine.Iface.{Iface}
use Rattle.ospf_packet.specs.Meaning.{BodyMeaning, Meaning, hello, description, request, update, acknowledgment}
use Rattle.ospf_packet.specs.PacketOf.{packet_of}
use Rattle.ospf_packet.specs.declared.body.Description.{Description}
use Rattle.ospf_packet.specs.declared.body.Hello.{Hello}
use Rattle.ospf_views.specs.declared.misfit.Misfit.{Misfit}
use Rattle.ospf_views.specs.declared.misfit.Misfit.TheVariants as misfit

-- a Hello on a broadcast link that has a Designated Router and on which the other end names none
abbrev pub broadcast_misfit : Iface → Hello → Option Misfit
broadcast_misfit i h =
    if i.dr.0 == nowhere.0 then None
    else if h.designated.0 == nowhere.0 then Some misfit.NamesNone
    else None

-- a Hello that names a Designated Router on a point-to-point link
abbrev pub single_misfit : Hello → Option Misfit
single_misfit h = if h.designated.0 == nowhere.0 then None else Some misfit.NamesOne

-- the ends are of two kinds, by a Hello (9.1)
abbrev pub kind_misfit : Iface → Hello → Option Misfit
kind_misfit i h = if is_broadcast i then broadcast_misfit i h else single_misfit h

-- the other end has a smaller MTU, so that it drops the Database Descriptions of this one (10.6)
abbrev pub mtu_misfit : ℕ → Description → Option Misfit
mtu_misfit mtu d = if nat_lt d.mtu mtu then Some (misfit.SmallerMtu d.mtu mtu) else None

-- by the body of a packet
abbrev pub body_misfit : LinkValue → BodyMeaning → Option Misfit
body_misfit l (hello fields heard) = kind_misfit l.iface fields
body_misfit l (description fields headers) = mtu_misfit l.settings.mtu fields
body_misfit l (request entries) = None
body_misfit l (update lsas) = None
body_misfit l (acknowledgment headers) = None

-- where there is the link and a packet was read
abbrev pub link_misfit : Option LinkValue → Option Meaning → Option Misfit
link_misfit None m = None
link_misfit (Some l) None = None
link_misfit (Some l) (Some m) = body_misfit l m.body

-- on a link of a router that may have stopped
abbrev pub misfit_on : Option AreaValue → ℕ → Option Meaning → Option Misfit
misfit_on None link m = None
misfit_on (Some s) link m = link_misfit (slice_get s.links link) m

-- what it is
abbrev pub misfit_words : Misfit → List ℕ
misfit_words misfit.NamesOne =
    codes "names a Designated Router: that end is broadcast, this one point-to-point"
misfit_words misfit.NamesNone =
    codes "names no Designated Router: that end is point-to-point, or still in Waiting"
misfit_words (misfit.SmallerMtu there here) =
    codes "has MTU " ++ decimal there ++ codes ", this end " ++ decimal here
    ++ codes ": it drops this end's Database Descriptions"

-- of the end of this address, if there is one
abbrev pub misfit_line : Addr → Option Misfit → List ℕ
misfit_line source None = []
misfit_line source (Some m) =
    codes "  " ++ number_text source.0 ++ codes " " ++ misfit_words m ++ codes "\n"

-- of a datagram that comes on a link of a router
abbrev pub sender_misfit : Option AreaValue → ℕ → SentValue → List ℕ
sender_misfit area link g = misfit_line g.source (misfit_on area link (packet_of g.bytes))
