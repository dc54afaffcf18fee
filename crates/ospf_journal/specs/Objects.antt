-- The lines of a journal as JSON objects.
use Rattle.std.specs.Prelude.{ℕ, ℤ, List, ◌++◌, codes, decimal}
use Rattle.ospf_base.specs.Text.{number_text, prefix_text}
use Rattle.ospf_base.specs.declared.ids.LsaKey.{LsaKey}
use Rattle.ospf_base.specs.declared.ids.RouterId.{RouterId}
use Rattle.ospf_base.specs.declared.prefix.Prefix.{Prefix}
use Rattle.ospf_graph.specs.Text.{hops_text}
use Rattle.ospf_graph.specs.declared.route.Route.{Route}
use Rattle.ospf_neighbour.specs.declared.iface.machine.IfaceState.{IfaceState}
use Rattle.ospf_neighbour.specs.Text.{state_text}
use Rattle.ospf_neighbour.specs.declared.machine.NeighbourState.{NeighbourState}
use Rattle.ospf_script.specs.Texts.{floor_text}
use Rattle.ospf_script.specs.Views.{lsa_kind_text}
use Rattle.ospf_router.specs.AreaStep.Text.{dropped_text}
use Rattle.ospf_journal.specs.Lines.{iface_text}
use Rattle.ospf_journal.specs.declared.change.RouterChange.{RouterChange}
use Rattle.ospf_journal.specs.declared.change.RouterChange.TheVariants as change
use Rattle.ospf_journal.specs.declared.change.DroppedAt.{DroppedAt}
use Rattle.ospf_journal.specs.declared.object.Object.{Object}
use Rattle.ospf_journal.specs.declared.seen.SeenIface.{SeenIface}

-- why a datagram was dropped, and where from
unfoldable pub cause_members : DroppedAt → List ℕ
cause_members d =
    codes ",\"cause\":\"" ++ dropped_text d.cause ++ codes "\",\"source\":\""
    ++ number_text d.source.0 ++ codes "\""

-- a neighbour
unfoldable pub router_member : RouterId → List ℕ
router_member q = codes ",\"neighbour\":\"" ++ number_text q.0 ++ codes "\""

-- a state that was, and one that is
unfoldable pub states_members : NeighbourState → NeighbourState → List ℕ
states_members before now =
    codes ",\"before\":\"" ++ state_text before ++ codes "\",\"now\":\"" ++ state_text now
    ++ codes "\""

-- the state of an interface before and now, as members
unfoldable pub iface_states_members : IfaceState → IfaceState → List ℕ
iface_states_members before now =
    codes ",\"before\":\"" ++ iface_text before ++ codes "\",\"now\":\"" ++ iface_text now
    ++ codes "\""

-- the Designated Router and the Backup
unfoldable pub elected_members : SeenIface → List ℕ
elected_members i =
    codes ",\"dr\":\"" ++ number_text i.dr.0 ++ codes "\",\"backup\":\"" ++ number_text i.backup.0
    ++ codes "\""

-- the kind and the Link State ID of an own LSA
unfoldable pub own_members : LsaKey → List ℕ
own_members key =
    codes ",\"lsa\":\"" ++ lsa_kind_text key.kind ++ codes "\",\"id\":\"" ++ number_text key.id
    ++ codes "\""

-- its number
unfoldable pub number_member : ℤ → List ℕ
number_member number = codes ",\"number\":\"" ++ floor_text number ++ codes "\""

-- a prefix
unfoldable pub prefix_member : Prefix → List ℕ
prefix_member prefix = codes ",\"prefix\":\"" ++ prefix_text prefix ++ codes "\""

-- what a route costs, and its hops
unfoldable pub path_members : Route → List ℕ
path_members route =
    codes ",\"cost\":" ++ decimal route.cost ++ codes ",\"hops\":\"" ++ hops_text route.hops
    ++ codes "\""

-- the members of what changed, the first of which names it
abbrev pub change_members : RouterChange → List ℕ
change_members change.Started = codes "\"event\":\"started\""
change_members change.Stopped = codes "\"event\":\"stopped\""
change_members (change.Dropped d) =
    codes "\"event\":\"dropped\",\"link\":" ++ decimal d.link ++ cause_members d
change_members (change.Neighbour link router before now) =
    codes "\"event\":\"neighbour\",\"link\":" ++ decimal link ++ router_member router
    ++ states_members before now
change_members (change.Interface link before now) =
    codes "\"event\":\"interface\",\"link\":" ++ decimal link
    ++ iface_states_members before now.state ++ elected_members now
change_members (change.Issued key number) =
    codes "\"event\":\"issued\"" ++ own_members key ++ number_member number
change_members (change.Flushed key number) =
    codes "\"event\":\"flushed\"" ++ own_members key ++ number_member number
change_members (change.Removed key) = codes "\"event\":\"removed\"" ++ own_members key
change_members (change.Route route) =
    codes "\"event\":\"route\"" ++ prefix_member route.prefix ++ path_members route
change_members (change.NoRoute prefix) = codes "\"event\":\"no route\"" ++ prefix_member prefix

-- the members of each object: the tick, and the router
unfoldable pub moment_members : ℕ → RouterId → List ℕ
moment_members tick q =
    codes "{\"tick\":" ++ decimal tick ++ codes ",\"router\":\"" ++ number_text q.0 ++ codes "\","

-- the object of a change: the tick, the router, and what changed. No text of it has a character
-- that JSON escapes
abbrev pub journal_object : ℕ → RouterId → RouterChange → List ℕ
journal_object tick q change = moment_members tick q ++ change_members change ++ codes "}"

-- an object
abbrev pub object_text : Object → List ℕ
object_text o = journal_object o.tick o.router o.change.now
