-- What changes of a router in a step, as a journal reports it.
use Rattle.std.specs.Prelude.{◌≡◌, ◌==◌, ◌&&◌, ◌++◌, ◌↔◌, ℕ, ℤ, zero, suc, Bool, true, false, not, List, [], ◌∷◌, AllPairs, Contains, Option, None, Some, find, flat_map, is_some, length, map, max, slice_get, if◌then◌else◌}
use Rattle.std.specs.Ordering.{int_eq}
use Rattle.ospf_base.specs.Addresses.{nowhere}
use Rattle.ospf_base.specs.Keys.{same_key}
use Rattle.ospf_base.specs.declared.ids.Instance.{Instance}
use Rattle.ospf_base.specs.declared.ids.LsaKey.{LsaKey}
use Rattle.ospf_base.specs.declared.ids.RouterId.{RouterId}
use Rattle.ospf_base.specs.declared.prefix.Prefix.{Prefix}
use Rattle.ospf_graph.specs.declared.route.Route.{Route}
use Rattle.ospf_neighbour.specs.declared.iface.machine.IfaceState.{IfaceState}
use Rattle.ospf_neighbour.specs.declared.iface.machine.IfaceState.TheVariants as iface
use Rattle.ospf_neighbour.specs.declared.machine.NeighbourState.{NeighbourState}
use Rattle.ospf_neighbour.specs.declared.machine.NeighbourState.TheVariants as state
use Rattle.ospf_spf.specs.Changes as tables
use Rattle.ospf_spf.specs.declared.changes.Change as spf
use Rattle.ospf_spf.specs.declared.changes.Change.TheVariants as put
use Rattle.ospf_journal.specs.Reports.{ReportedValue}
use Rattle.ospf_journal.specs.Seen.{SeenLinkValue, SeenValue}
use Rattle.ospf_journal.specs.declared.change.RouterChange.{RouterChange}
use Rattle.ospf_journal.specs.declared.change.RouterChange.TheVariants as change
use Rattle.ospf_journal.specs.declared.change.DroppedAt.{DroppedAt}
use Rattle.ospf_journal.specs.declared.seen.SeenCopy.{SeenCopy}
use Rattle.ospf_journal.specs.declared.seen.SeenIface.{SeenIface}
use Rattle.ospf_journal.specs.declared.seen.SeenNeighbour.{SeenNeighbour}
use Rattle.ospf_journal.specs.declared.seen.SeenOwn.{SeenOwn}

-- ---- starts and stops

-- a router with these links runs: one that runs has links, and of one that does not none is seen
abbrev pub runs_with : List SeenLinkValue → Bool
runs_with links = not (length links == 0)

-- that it has started, or stopped
abbrev pub run_change_of : (before now : Bool) → List RouterChange
run_change_of false true = change.Started ∷ []
run_change_of true false = change.Stopped ∷ []
run_change_of false false = []
run_change_of true true = []

-- if it has
abbrev pub run_change : (before now : List SeenLinkValue) → List RouterChange
run_change before now = run_change_of (runs_with before) (runs_with now)

-- ---- neighbours

-- the places of a neighbour's states in their order (RFC 2328, section 10.1)
abbrev pub state_place : NeighbourState → ℕ
state_place state.Down = 0
state_place state.Init = 1
state_place state.TwoWay = 2
state_place state.ExStart = 3
state_place state.Exchange = 4
state_place state.Loading = 5
state_place state.Full = 6

-- the neighbours of a link; none where there is no link
abbrev pub neighbours_of_link : Option SeenLinkValue → List SeenNeighbour
neighbours_of_link None = []
neighbours_of_link (Some link) = link.neighbours

-- the neighbours that were seen on a link
abbrev pub seen_on : List SeenLinkValue → ℕ → List SeenNeighbour
seen_on links link = neighbours_of_link (slice_get links link)

-- the neighbour of a Router ID
abbrev pub seen_as : List SeenNeighbour → RouterId → Option SeenNeighbour
seen_as ns q = find (λ n. n.router.0 == q.0) ns

-- its state: one that is not there is Down
abbrev pub seen_state : Option SeenNeighbour → NeighbourState
seen_state None = state.Down
seen_state (Some n) = n.state

-- a neighbour's state is another one
abbrev pub state_change : ℕ → RouterId → (before now : NeighbourState) → List RouterChange
state_change link q before now =
    if state_place before == state_place now then [] else change.Neighbour link q before now ∷ []

-- what changed of a neighbour that is there
abbrev pub standing_change : ℕ → List SeenNeighbour → SeenNeighbour → List RouterChange
standing_change link before n =
    state_change link n.router (seen_state (seen_as before n.router)) n.state

-- one that was there is no more
abbrev pub gone_change : ℕ → List SeenNeighbour → SeenNeighbour → List RouterChange
gone_change link now n =
    if is_some (seen_as now n.router) then [] else state_change link n.router n.state state.Down

-- the neighbours of a link whose state is another one: those that are there, and then those
-- that are gone, each by Router ID
abbrev pub link_changes : ℕ → (before now : List SeenNeighbour) → List RouterChange
link_changes link before now =
    flat_map (standing_change link before) now ++ flat_map (gone_change link now) before

-- those of the first so many links
abbrev pub links_changes : (before now : List SeenLinkValue) → ℕ → List RouterChange
links_changes before now zero = []
links_changes before now (suc link) =
    links_changes before now link ++ link_changes link (seen_on before link) (seen_on now link)

-- ---- interfaces

-- the places of an interface's states in their order (9.1)
abbrev pub iface_place : IfaceState → ℕ
iface_place iface.Down = 0
iface_place iface.Waiting = 1
iface_place iface.PointToPoint = 2
iface_place iface.DrOther = 3
iface_place iface.Backup = 4
iface_place iface.Dr = 5

-- an interface that is down
abbrev pub down_iface : SeenIface
down_iface = record { state = iface.Down; dr = nowhere; backup = nowhere }

-- the interface of a link: one that is down, where there is no link
abbrev pub iface_of_link : Option SeenLinkValue → SeenIface
iface_of_link None = down_iface
iface_of_link (Some link) = link.iface

-- the interface that was seen of a link
abbrev pub iface_on : List SeenLinkValue → ℕ → SeenIface
iface_on links link = iface_of_link (slice_get links link)

-- the two are alike in state, Designated Router and Backup
abbrev pub is_same_iface : SeenIface → SeenIface → Bool
is_same_iface a b =
    (iface_place a.state == iface_place b.state) && (a.dr.0 == b.dr.0) && (a.backup.0 == b.backup.0)

-- its state, the Designated Router or the Backup is another one
abbrev pub iface_change : ℕ → (before now : SeenIface) → List RouterChange
iface_change link before now =
    if is_same_iface before now then [] else change.Interface link before.state now ∷ []

-- those of the first so many links
abbrev pub ifaces_changes : (before now : List SeenLinkValue) → ℕ → List RouterChange
ifaces_changes before now zero = []
ifaces_changes before now (suc link) =
    ifaces_changes before now link ++ iface_change link (iface_on before link) (iface_on now link)

-- ---- own LSAs

-- what was seen of the LSA of a key
abbrev pub own_as : List SeenOwn → LsaKey → Option SeenOwn
own_as owns key = find (λ o. same_key o.key key) owns

-- the copy of an LSA of which this was seen, if anything was
abbrev pub copy_in : Option SeenOwn → Option SeenCopy
copy_in None = None
copy_in (Some o) = o.copy

-- an instance that was issued (12.4)
abbrev pub issue_change : Instance → RouterChange
issue_change i = change.Issued i.key i.number

-- the database had this number of the LSA at MaxAge
abbrev pub was_flushed : Option SeenCopy → ℤ → Bool
was_flushed None number = false
was_flushed (Some copy) number = copy.is_flushed && int_eq copy.number number

-- this copy came to MaxAge (14.1): the database did not have its number there before
abbrev pub comes_to_max_age : Option SeenCopy → SeenCopy → Bool
comes_to_max_age before copy = copy.is_flushed && not (was_flushed before copy.number)

-- that it did, if it did
abbrev pub flush_change : LsaKey → Option SeenCopy → SeenCopy → List RouterChange
flush_change key before copy =
    if comes_to_max_age before copy then change.Flushed key copy.number ∷ [] else []

-- the database has no copy of an LSA: one that it had left it, which it does at MaxAge (14), and
-- one that was below MaxAge before came there meanwhile
abbrev pub leave_changes : LsaKey → Option SeenCopy → List RouterChange
leave_changes key None = []
leave_changes key (Some copy) =
    (if copy.is_flushed then [] else change.Flushed key copy.number ∷ []) ++ change.Removed key ∷ []

-- what became of the database's copy of an LSA: it came to MaxAge, or it left the database
abbrev pub copy_changes : LsaKey → (before now : Option SeenCopy) → List RouterChange
copy_changes key before None = leave_changes key before
copy_changes key before (Some copy) = flush_change key before copy

-- what became of an LSA that is seen now
abbrev pub own_change : List SeenOwn → SeenOwn → List RouterChange
own_change before o = copy_changes o.key (copy_in (own_as before o.key)) o.copy

-- what became of all of them
abbrev pub own_changes : (before now : List SeenOwn) → List RouterChange
own_changes before now = flat_map (own_change before) now

-- ---- routes

-- the changes that lead from one table to the other, in the order of tables, and no other
pub record LeadsOn (before now : List Route) (routes : List spf.Change) : Type 0 where
  pub applied : tables.edited before routes ≡ now
  pub in_order : AllPairs tables.IsChangeBefore routes
  pub puts : (route : Route) → Contains routes (put.Put route) ↔ tables.IsNewRoute before now route
  pub gone : (prefix : Prefix) → Contains routes (put.Gone prefix) ↔ tables.IsGone before now prefix

-- as a journal reports it
abbrev pub route_change : spf.Change → RouterChange
route_change (put.Put route) = change.Route route
route_change (put.Gone prefix) = change.NoRoute prefix

-- ---- a step

-- a datagram that is dropped
abbrev pub drop_change : Option DroppedAt → List RouterChange
drop_change None = []
drop_change (Some dropped) = change.Dropped dropped ∷ []

-- all but the routes: that the router has started or stopped, the datagram that is dropped, the
-- neighbours whose state is another one, link by link, then the interfaces, the LSAs that the step
-- issued, and what became of the database's copies of own LSAs
abbrev pub standing_changes : (before now : SeenValue) → ReportedValue → List RouterChange
standing_changes before now reported =
    run_change before.links now.links ++ drop_change reported.dropped
    ++ links_changes before.links now.links (max (length before.links) (length now.links))
    ++ ifaces_changes before.links now.links (max (length before.links) (length now.links))
    ++ map issue_change reported.issued ++ own_changes before.own now.own

-- the changes of a table go on from these changes to those
pub record LeadsAlong (before now : List Route) (changes changes' : List RouterChange)
    : Type 0 where
  pub routes : List spf.Change
  pub leads : LeadsOn before now routes
  pub all : changes' ≡ changes ++ map route_change routes

-- the changes of a step that leads from the one to the other and reports this: these, and behind
-- them the routes that are others
abbrev pub AreChanges : (before now : SeenValue) → ReportedValue → List RouterChange → Type 0
AreChanges before now reported changes =
    LeadsAlong before.table now.table (standing_changes before now reported) changes
