-- The lines of a journal.
use Rattle.std.specs.Prelude.{ℕ, List, ◌++◌, codes, decimal}
use Rattle.ospf_base.specs.Text.{number_text, prefix_text}
use Rattle.ospf_base.specs.declared.ids.LsaKey.{LsaKey}
use Rattle.ospf_base.specs.declared.ids.RouterId.{RouterId}
use Rattle.ospf_graph.specs.Text.{route_text}
use Rattle.ospf_neighbour.specs.declared.iface.machine.IfaceState.{IfaceState}
use Rattle.ospf_neighbour.specs.declared.iface.machine.IfaceState.TheVariants as iface
use Rattle.ospf_neighbour.specs.Text.{state_text}
use Rattle.ospf_neighbour.specs.declared.machine.NeighbourState.{NeighbourState}
use Rattle.ospf_script.specs.Texts.{floor_text}
use Rattle.ospf_script.specs.Views.{lsa_kind_text}
use Rattle.ospf_router.specs.AreaStep.Text.{dropped_text}
use Rattle.ospf_journal.specs.declared.change.RouterChange.{RouterChange}
use Rattle.ospf_journal.specs.declared.change.RouterChange.TheVariants as change
use Rattle.ospf_journal.specs.declared.line.JournalLine.{JournalLine}
use Rattle.ospf_journal.specs.declared.seen.SeenIface.{SeenIface}

-- the name of an interface's state (RFC 2328, section 9.1)
abbrev pub iface_text : IfaceState → List ℕ
iface_text iface.Down = codes "Down"
iface_text iface.Waiting = codes "Waiting"
iface_text iface.PointToPoint = codes "Point-to-point"
iface_text iface.DrOther = codes "DROther"
iface_text iface.Backup = codes "Backup"
iface_text iface.Dr = codes "DR"

-- the kind and the Link State ID of an own LSA
unfoldable pub own_text : LsaKey → List ℕ
own_text key = lsa_kind_text key.kind ++ codes " " ++ number_text key.id

-- a state that was, and one that is
unfoldable pub states_text : NeighbourState → NeighbourState → List ℕ
states_text before now = state_text before ++ codes " " ++ state_text now

-- the state of an interface before and now
unfoldable pub iface_states_text : IfaceState → IfaceState → List ℕ
iface_states_text before now = iface_text before ++ codes " " ++ iface_text now

-- the Designated Router and the Backup
unfoldable pub elected_text : SeenIface → List ℕ
elected_text i = codes " dr " ++ number_text i.dr.0 ++ codes " backup " ++ number_text i.backup.0

-- a neighbour of a link
unfoldable pub neighbour_on : ℕ → RouterId → List ℕ
neighbour_on link q =
    codes "link " ++ decimal link ++ codes " neighbour " ++ number_text q.0 ++ codes " "

-- what changed
abbrev pub change_text : RouterChange → List ℕ
change_text change.Started = codes "started"
change_text change.Stopped = codes "stopped"
change_text (change.Dropped d) =
    codes "link " ++ decimal d.link ++ codes " dropped " ++ dropped_text d.cause ++ codes " "
    ++ number_text d.source.0
change_text (change.Neighbour link router before now) =
    neighbour_on link router ++ states_text before now
change_text (change.Interface link before now) =
    codes "link " ++ decimal link ++ codes " interface " ++ iface_states_text before now.state
    ++ elected_text now
change_text (change.Issued key number) =
    codes "issued " ++ own_text key ++ codes " " ++ floor_text number
change_text (change.Flushed key number) =
    codes "flushed " ++ own_text key ++ codes " " ++ floor_text number
change_text (change.Removed key) = codes "removed " ++ own_text key
change_text (change.Route route) = codes "route " ++ route_text route
change_text (change.NoRoute prefix) = codes "no route " ++ prefix_text prefix

-- the line of a change: the tick, the router, and what changed
abbrev pub journal_line : ℕ → RouterId → RouterChange → List ℕ
journal_line tick q change =
    decimal tick ++ codes " " ++ number_text q.0 ++ codes " " ++ change_text change

-- a line
abbrev pub line_text : JournalLine → List ℕ
line_text line = journal_line line.tick line.router line.change.now
