-- What a journal keeps of a router: of each link its interface and its neighbours, its
-- own LSAs, and its routing table.
use Rattle.std.specs.Prelude.{not, List, [], Option, None, Some, map, option_map}
use Rattle.ospf_area.specs.State.{AreaValue, LinkValue}
use Rattle.ospf_area.specs.declared.state.Numbering.{Numbering}
use Rattle.ospf_graph.specs.declared.route.Route.{Route}
use Rattle.ospf_neighbour.specs.declared.iface.machine.Iface.{Iface}
use Rattle.ospf_lsdb.specs.Database.{Entry, Held, entry_of, header_at, is_fresh}
use Rattle.ospf_neighbour.specs.Neighbour.{NeighbourValue}
use Rattle.ospf_router.specs.Routers.{RouterValue}
use Rattle.ospf_journal.specs.declared.seen.SeenCopy.{SeenCopy}
use Rattle.ospf_journal.specs.declared.seen.SeenIface.{SeenIface}
use Rattle.ospf_journal.specs.declared.seen.SeenNeighbour.{SeenNeighbour}
use Rattle.ospf_journal.specs.declared.seen.SeenOwn.{SeenOwn}

-- of a link
pub record SeenLinkValue : Type 0 where
  pub iface : SeenIface
  pub neighbours : List SeenNeighbour

-- of a router: its links by their numbers, its own LSAs, and its routing table
pub record SeenValue : Type 0 where
  pub links : List SeenLinkValue
  pub own : List SeenOwn
  pub table : List Route

-- of a router that does not run, or is not known yet
abbrev pub nothing_seen : SeenValue
nothing_seen = record { links = []; own = []; table = [] }

-- a neighbour: its Router ID and its state (RFC 2328, section 10.1)
abbrev pub seen_neighbour : NeighbourValue → SeenNeighbour
seen_neighbour n = record { router = n.router; state = n.state }

-- an interface: its state, the Designated Router and the Backup (9)
abbrev pub seen_iface : Iface → SeenIface
seen_iface i = record { state = i.state; dr = i.dr; backup = i.backup }

-- what is kept of a link
abbrev pub seen_link : LinkValue → SeenLinkValue
seen_link link =
    record { iface = seen_iface link.iface; neighbours = map seen_neighbour link.neighbours }

-- the database's copy of an own LSA: its number, and whether it is at MaxAge (12.1.6, 14)
abbrev pub seen_copy : Entry → SeenCopy
seen_copy e = record { number = (header_at e).number; is_flushed = not (is_fresh e) }

-- an own LSA that was numbered: its copy in the database, if there is one
abbrev pub seen_own : List Held → Numbering → SeenOwn
seen_own db n = record { key = n.key; copy = option_map seen_copy (entry_of db n.key) }

-- what is kept of the links of a router, which may not run
abbrev pub seen_links : Option AreaValue → List SeenLinkValue
seen_links None = []
seen_links (Some s) = map seen_link s.links

-- what is kept of the own LSAs of a router, which may not run
abbrev pub seen_owns : Option AreaValue → List SeenOwn
seen_owns None = []
seen_owns (Some s) = map (seen_own s.database) s.numbering

-- what is seen of a router
abbrev pub seen_of : RouterValue → SeenValue
seen_of x = record { links = seen_links x.area; own = seen_owns x.area; table = x.table }
