-- What a router waits for on a link, and of a neighbour there (RFC 2328, sections 9.1 and 10.1).
use Rattle.std.specs.Prelude.{◌==◌, ℕ, List, [], ◌++◌, Option, None, Some, codes, decimal, flat_map, length, option_map, slice_get, take, if◌then◌else◌}
use Rattle.ospf_area.specs.State.{AreaValue, LinkValue}
use Rattle.ospf_base.specs.Addresses.{nowhere}
use Rattle.ospf_base.specs.Text.{number_text}
use Rattle.ospf_base.specs.declared.ids.Addr.{Addr}
use Rattle.ospf_base.specs.declared.ids.RouterId.{RouterId}
use Rattle.ospf_neighbour.specs.declared.iface.machine.Iface.{Iface}
use Rattle.ospf_neighbour.specs.declared.iface.machine.IfaceState.{IfaceState}
use Rattle.ospf_neighbour.specs.declared.iface.machine.IfaceState.TheVariants as iface
use Rattle.ospf_journal.specs.Lines.{iface_text}
use Rattle.ospf_lsa.specs.declared.header.LsaHeader.{LsaHeader}
use Rattle.ospf_neighbour.specs.Neighbour.{NeighbourValue}
use Rattle.ospf_neighbour.specs.Neighbours.{neighbour_of}
use Rattle.ospf_neighbour.specs.Text.{state_text}
use Rattle.ospf_neighbour.specs.declared.machine.NeighbourState.{NeighbourState}
use Rattle.ospf_neighbour.specs.declared.machine.NeighbourState.TheVariants as state
use Rattle.ospf_neighbour.specs.declared.neighbour.Exchanging.{Exchanging}
use Rattle.ospf_neighbour.specs.declared.neighbour.Listed.{Listed}
use Rattle.ospf_views.specs.Texts.{listed_text}

-- ---- a neighbour

-- the number of a link, and a neighbour there in a state
unfoldable pub stands_line : ℕ → RouterId → NeighbourState → List ℕ
stands_line link q s =
    codes "link " ++ decimal link ++ codes " neighbour " ++ number_text q.0 ++ codes " "
    ++ state_text s ++ codes "\n"

-- without Waiting: nothing, where there is a Designated Router; else for one, which none of those
-- that hear each other may become (9.4)
abbrev pub elected_waits : Addr → List ℕ
elected_waits dr =
    if dr.0 == nowhere.0
    then codes "  waiting for a Designated Router: no router here has a priority above 0\n"
    else codes "  stays here: these two need no adjacency\n"

-- in 2-Way: the election, or what has come of it (10.4)
abbrev pub two_way_waits : IfaceState → ℕ → Addr → List ℕ
two_way_waits iface.Waiting wait dr =
    codes "  waiting for the wait timer, " ++ decimal wait ++ codes " ticks left\n"
two_way_waits _ wait dr = elected_waits dr

-- in Exchange: the other's next Database Description (10.8)
abbrev pub exchange_waits : Exchanging → List ℕ
exchange_waits e =
    if e.is_master
    then codes "  waiting for the slave's Database Description with sequence number "
    ++ decimal e.number ++ codes "\n"
    else codes "  waiting for the master's next Database Description, after sequence number "
    ++ decimal e.number ++ codes "\n"

-- what the state waits for
unfoldable pub state_waits : NeighbourState → Iface → NeighbourValue → List ℕ
state_waits state.Down i n = codes "  waiting for a Hello\n"
state_waits state.Init i n =
    codes "  waiting for a Hello that lists " ++ number_text i.settings.router.0 ++ codes "\n"
state_waits state.TwoWay i n = two_way_waits i.state i.wait i.dr
state_waits state.ExStart i n =
    codes "  waiting for a Database Description that decides who is master\n"
state_waits state.Exchange i n = exchange_waits n.exchanging
state_waits state.Loading i n = []
state_waits state.Full i n = []

-- the name of an LS type (A.4.1)
abbrev pub type_text : ℕ → List ℕ
type_text kind =
    if kind == 1 then codes "router"
    else if kind == 2 then codes "network"
    else codes "type " ++ decimal kind

-- an LSA on the request list
abbrev pub request_line : LsaHeader → List ℕ
request_line h =
    codes "    " ++ type_text h.kind ++ codes " " ++ number_text h.id ++ codes " "
    ++ number_text h.router.0 ++ codes "\n"

-- how many LSAs are to come by Request, and how many of them the last one named
unfoldable pub requested_text : ℕ → List ℕ
requested_text count = codes "  waiting for requested LSAs: " ++ decimal count

-- how many of them the last Request named
unfoldable pub asked_text : ℕ → List ℕ
asked_text asked = codes ", " ++ decimal asked ++ codes " of them asked for\n"

-- the line of how many LSAs are wanted, and how many of them are asked for (10.9)
unfoldable pub requests_line : (count asked : ℕ) → List ℕ
requests_line count asked = requested_text count ++ asked_text asked

-- the LSAs that are to come by Request, the first three of them named (10.9)
unfoldable pub request_waits : List LsaHeader → ℕ → List ℕ
request_waits requests asked =
    if length requests == 0 then []
    else requests_line (length requests) asked ++ flat_map request_line (take 3 requests)

-- an instance on the retransmission list
abbrev pub retransmission_line : Listed → List ℕ
retransmission_line l = codes "    " ++ listed_text l.instance ++ codes "\n"

-- how many acknowledgements are to come
unfoldable pub acknowledgements_line : ℕ → List ℕ
acknowledgements_line count = codes "  waiting for acknowledgments: " ++ decimal count ++ codes "\n"

-- the instances that it has not acknowledged, the first three of them named (13.6)
unfoldable pub acknowledgement_waits : List Listed → List ℕ
acknowledgement_waits listed =
    if length listed == 0 then []
    else acknowledgements_line (length listed) ++ flat_map retransmission_line (take 3 listed)

-- in Full, nothing where both lists are empty
unfoldable pub full_waits : NeighbourState → List LsaHeader → List Listed → List ℕ
full_waits state.Full [] [] = codes "  waiting for nothing\n"
full_waits _ _ _ = []

-- a neighbour of a link, and what it waits for
unfoldable pub neighbour_why : ℕ → Iface → NeighbourValue → List ℕ
neighbour_why link i n =
    stands_line link n.router n.state ++ state_waits n.state i n ++ request_waits n.requests n.asked
    ++ acknowledgement_waits n.retransmission ++ full_waits n.state n.requests n.retransmission

-- ---- a link

-- one without neighbours: it comes up, or a Hello comes
abbrev pub alone_waits : IfaceState → List ℕ
alone_waits iface.Down = codes "  waiting for the link to come up\n"
alone_waits _ = codes "  waiting for a Hello\n"

-- the number of a link, and its interface
unfoldable pub interface_line : ℕ → Iface → List ℕ
interface_line link i =
    codes "link " ++ decimal link ++ codes " interface " ++ iface_text i.state ++ codes " dr "
    ++ number_text i.dr.0
    ++ codes " backup " ++ number_text i.backup.0 ++ codes "\n"

-- the lines of a link: what it waits for alone, or of each neighbour
unfoldable pub neighbours_why : ℕ → Iface → List NeighbourValue → List ℕ
neighbours_why link i ns =
    if length ns == 0 then alone_waits i.state else flat_map (neighbour_why link i) ns

-- a link, and what it and its neighbours wait for
abbrev pub link_why : ℕ → LinkValue → List ℕ
link_why link l = interface_line link l.iface ++ neighbours_why link l.iface l.neighbours

-- a Router ID on a link: the neighbour, or that there is none
abbrev pub one_why : ℕ → LinkValue → RouterId → Option NeighbourValue → List ℕ
one_why link l q None = stands_line link q state.Down ++ alone_waits l.iface.state
one_why link l q (Some n) = neighbour_why link l.iface n

-- a link, or a Router ID on it
abbrev pub why_text : ℕ → LinkValue → Option RouterId → List ℕ
why_text link l None = link_why link l
why_text link l (Some q) = one_why link l q (neighbour_of l.neighbours q)

-- the interface of a link of a router that may have stopped; none where there is no such link
abbrev pub interface_of : Option AreaValue → ℕ → Option (List ℕ)
interface_of None link = None
interface_of (Some s) link =
    option_map (λ (l : LinkValue). interface_line link l.iface) (slice_get s.links link)

-- of a link of a router that may have stopped; none where there is no such link
abbrev pub why_of : Option AreaValue → ℕ → Option RouterId → Option (List ℕ)
why_of None link q = None
why_of (Some s) link q = option_map (λ l. why_text link l q) (slice_get s.links link)
