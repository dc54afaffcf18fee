-- The interface state machine (RFC 2328, sections 9.1 to 9.4).
use Rattle.std.specs.Prelude.{◌≡◌, ◌==◌, ◌&&◌, not, ⊤, Bool, true, false, List, Contains, if◌then◌else◌}
use Rattle.ospf_base.specs.Addresses.{nowhere}
use Rattle.ospf_base.specs.declared.ids.Addr.{Addr}
use Rattle.ospf_neighbour.specs.declared.iface.candidate.Candidate.{Candidate}
use Rattle.ospf_neighbour.specs.declared.iface.candidate.Elected.{Elected}
use Rattle.ospf_neighbour.specs.Interface.Election.{IsElected, AreDistinct}
use Rattle.ospf_neighbour.specs.declared.iface.machine.Iface.{Iface}
use Rattle.ospf_neighbour.specs.declared.iface.machine.IfaceChange.{IfaceChange}
use Rattle.ospf_neighbour.specs.declared.iface.settings.IfaceSettings.{IfaceSettings}
use Rattle.ospf_base.specs.declared.interface.InterfaceKind.TheVariants as kind
use Rattle.ospf_neighbour.specs.declared.iface.machine.IfaceState.{IfaceState}
use Rattle.ospf_neighbour.specs.declared.iface.machine.IfaceEvent.{IfaceEvent}
use Rattle.ospf_neighbour.specs.declared.iface.machine.IfaceState.TheVariants.{Down, Waiting, PointToPoint, DrOther, Backup, Dr}
use Rattle.ospf_neighbour.specs.declared.iface.machine.IfaceEvent.TheVariants.{InterfaceUp, BackupSeen, WaitTimer, NeighborChange, InterfaceDown}

-- the interface takes no part (9.1)
abbrev pub is_down : IfaceState → Bool
is_down Down = true
is_down _ = false

-- the router is the DR or the Backup of the network (9.1)
abbrev pub is_dr_or_backup : IfaceState → Bool
is_dr_or_backup Dr = true
is_dr_or_backup Backup = true
is_dr_or_backup _ = false

-- what the machine does
pub data Action : Type 0 where
  Start : Action  -- the interface becomes operational
  Elect : List Candidate → Action  -- the DR and the Backup are elected
  Stop : Action  -- the interface is reset
  Ignore : Action

-- the interface state machine (9.3)
abbrev pub action : IfaceState → IfaceEvent → Action
action Down InterfaceUp = Action.Start
action Waiting (BackupSeen candidates) = Action.Elect candidates.now
action Waiting (WaitTimer candidates) = Action.Elect candidates.now
action DrOther (NeighborChange candidates) = Action.Elect candidates.now
action Backup (NeighborChange candidates) = Action.Elect candidates.now
action Dr (NeighborChange candidates) = Action.Elect candidates.now
action _ InterfaceDown = Action.Stop
action _ _ = Action.Ignore

-- the state in which an interface starts (9.3, InterfaceUp)
abbrev pub first_state : IfaceSettings → IfaceState
first_state s =
    elim s.kind [
      | kind.PointToPoint ↦ PointToPoint
      | kind.Broadcast ↦ (if s.priority == 0 then DrOther else Waiting)
    ]

-- the state in which an election leaves it (9.4, step 5)
abbrev pub elected_state : Addr → Elected → IfaceState
elected_state own e =
    if e.dr.0 == own.0 then Dr else if e.backup.0 == own.0 then Backup else DrOther

-- another DR or another Backup than before (9.4, step 7)
abbrev pub is_changed : Iface → Elected → Bool
is_changed i e = not ((e.dr.0 == i.dr.0) && (e.backup.0 == i.backup.0))

-- what is reported of the interface as it is now
abbrev pub change_of : Iface → Bool → Bool → Bool → IfaceChange
change_of i adj_ok kills hello =
    record {
      state = i.state;
      dr = i.dr;
      backup = i.backup;
      adj_ok = adj_ok;
      kills = kills;
      hello = hello;
    }

-- the interface becomes operational; Waiting lasts RouterDeadInterval (9.1; 9.3, InterfaceUp)
abbrev pub started : Iface → Iface
started i = record i {
  state = first_state i.settings;
  dr = nowhere;
  backup = nowhere;
  wait = elim (first_state i.settings) [ Waiting ↦ i.settings.dead | _ ↦ 0 ];
  hello_in = i.settings.hello;
}

-- the interface after an election (9.4, step 5)
abbrev pub elected : Elected → Iface → Iface
elected e i =
    record i { state = elected_state i.settings.address e; dr = e.dr; backup = e.backup; wait = 0 }

-- the interface is reset (9.3, InterfaceDown)
abbrev pub iface_stopped : Iface → Iface
iface_stopped i = record i { state = Down; dr = nowhere; backup = nowhere; wait = 0; hello_in = 0 }

-- the interface's own router, as it takes part in an election (9.4, step 1)
abbrev pub own_candidate : Iface → Candidate
own_candidate i =
    record {
      id = i.settings.router;
      address = i.settings.address;
      priority = i.settings.priority;
      dr = i.dr;
      backup = i.backup;
    }

-- the election's result is the interface's DR and Backup, and AdjOK? is due where
-- they changed (9.4)
pub record Elects (candidates : List Candidate) (before after : Iface) (change : IfaceChange)
    : Type 0 where
  pub result : Elected
  pub is_elected : IsElected candidates before.settings.router result
  pub state : after ≡ elected result before
  pub tells : change ≡ change_of after (is_changed before result) false false

-- what an action does to an interface, and what it reports: AdjOK?, KillNbr, a Hello
abbrev pub DoesAction : Action → Iface → Iface → IfaceChange → Type 0
DoesAction Action.Start before after change =
    (after ≡ started before) × (change ≡ change_of after false false true)
DoesAction (Action.Elect candidates) before after change = Elects candidates before after change
DoesAction Action.Stop before after change =
    (after ≡ iface_stopped before) × (change ≡ change_of after false true false)
DoesAction Action.Ignore before after change =
    (after ≡ before) × (change ≡ change_of after false false false)

-- the own router is among the candidates, whose Router IDs differ
abbrev pub CanElect : List Candidate → Iface → Type 0
CanElect candidates i = AreDistinct candidates × Contains candidates (own_candidate i)

-- where the action elects, it can
abbrev pub CanTakeAction : Action → Iface → Type 0
CanTakeAction (Action.Elect candidates) i = CanElect candidates i
CanTakeAction _ i = ⊤
