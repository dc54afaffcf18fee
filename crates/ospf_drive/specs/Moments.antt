-- Where a driver stands: the router, the wire and the writer.
use Rattle.std.specs.Prelude.{◌≡◌, ℕ, List, [], ◌∷◌, Bool, true, false, ◌&&◌, Option, None, Some, filter_map, flat_map, fold, map, nat_lt, nat_le, if◌then◌else◌}
use Rattle.std.specs.List.{AllByRecursion}
use Rattle.ospf_fib.specs.PrefixIndex.Known.{Known, Table}
use Rattle.ospf_area.specs.Outputs.{SentValue}
use Rattle.ospf_router.specs.AreaStep.Step.{Event}
use Rattle.ospf_router.specs.Routers.{RouterValue}
use Rattle.ospf_drive.specs.Machines.{Rules}
use Rattle.ospf_drive.specs.Traffic.{Heard, Carried}
use Rattle.ospf_drive.specs.Traffic.Heard.{Datagram, Tick, LinkUp, LinkDown, End}
pub use Rattle.ospf_router.specs.Chains.{Done}

-- the router, the wire's traffic if it is reported, how often the wire has failed,
-- and what the writer has published
pub record Moment : Type 0 where
  pub router : RouterValue
  pub traffic : Carried
  pub failed : ℕ
  pub known : Known

-- where it stands, by its four parts
abbrev pub at : RouterValue → Carried → ℕ → Known → Moment
at router traffic failed known =
    record { router = router; traffic = traffic; failed = failed; known = known }

-- the event that an arrival is to a router with this many links; none, and the arrival is ignored,
-- if there is no such link, or the datagram is longer than the buffer
abbrev pub event_of : ℕ → Heard → Option Event
event_of links (Datagram link source destination length bytes) =
    if nat_lt link links && nat_le length 16393
    then Some (Event.Datagram link source destination bytes)
    else None
event_of links Tick = Some Event.Tick
event_of links (LinkUp link) = if nat_lt link links then Some (Event.LinkUp link) else None
event_of links (LinkDown link) = if nat_lt link links then Some (Event.LinkDown link) else None
event_of links End = None

-- the events of arrivals, in order
abbrev pub events_of : ℕ → List Heard → List Event
events_of links hs = filter_map (event_of links) hs

-- no arrival is an end
abbrev pub is_heard_end : Heard → Bool
is_heard_end End = true
is_heard_end _ = false

-- none of them is the end of what is heard
abbrev pub HasNoEnd : List Heard → Type 0
HasNoEnd hs = AllByRecursion (λ h. is_heard_end h ≡ false) hs

-- the events of these steps
abbrev pub events_done : List Done → List Event
events_done ds = map (λ (d : Done). d.event) ds

-- each of them is a step by the rules, from where the one before left the router
abbrev pub IsChain : Rules → RouterValue → List Done → Type 0
IsChain rules old [] = Unit {0}
IsChain rules old (d ∷ ds) = rules.steps d.event old d.gives d.after × IsChain rules d.after ds

-- where they leave the router
abbrev pub left_by : RouterValue → List Done → RouterValue
left_by old ds = fold (λ (r : RouterValue) (d : Done). d.after) old ds

-- what they send, in order
abbrev pub sent_by : List Done → List SentValue
sent_by ds = flat_map (λ (d : Done). d.gives.out.sent) ds

-- the tables of those that changed the table, in order
abbrev pub table_of : Done → List Table
table_of d = if d.gives.table_changed then d.after.table ∷ [] else []

-- the tables that these steps publish
abbrev pub tables_published : List Done → List Table
tables_published ds = flat_map table_of ds
