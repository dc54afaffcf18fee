-- Many routers: what runs, what was ever sent and issued, and what may happen.
use Rattle.std.specs.Prelude.{◌≡◌, ◌≢◌, ◌++◌, ◌==◌, ℕ, ℤ, List, [], ◌∷◌, Option, None, Some, map, length, find, slice_get, option_map, option_and_then, is_some, nat_lt, Bool, true, false, Result, Ok, Err, ⊤, if◌then◌else◌}
use Rattle.std.specs.Ordering.{int_eq}
use Rattle.ospf_base.specs.declared.ids.Instance.{Instance}
use Rattle.ospf_base.specs.declared.ids.LsaKey.{LsaKey}
use Rattle.ospf_base.specs.declared.ids.RouterId.{RouterId}
use Rattle.ospf_lsa.specs.Listing.{IsListing}
use Rattle.ospf_lsa.specs.Lsa.{key_of, instance_of}
use Rattle.ospf_lsdb.specs.Database.{listed, IsDatabase}
use Rattle.ospf_graph.specs.Routes.{IsTable}
use Rattle.ospf_graph.specs.declared.route.Route.{Route}
use Rattle.ospf_graph.specs.EdgeLists.Listed.{advertisements_of}
use Rattle.ospf_flood.specs.Rules.{max_sequence_number}
use Rattle.ospf_area.specs.Outputs.{OutputsValue}
use Rattle.ospf_area.specs.State.{AreaValue, copy_of, kept_number}
use Rattle.ospf_world.specs.Logs.{run_of}
use Rattle.ospf_router.specs.AreaStep.Words.{CanName, Asks}
use Rattle.ospf_area.specs.Updates.Removal.{lowest_number}
use Rattle.ospf_lsdb.specs.Moments.{among}
use Rattle.ospf_router.specs.AreaStep.Accounts.{Accounts}
use Rattle.ospf_router.specs.AreaStep.Step.{Event, heard_in}
use Rattle.ospf_router.specs.AreaStep.Step.Event.{Tick, LinkUp, LinkDown}
pub use Rattle.ospf_base.specs.declared.event.event.WorldEvent.{WorldEvent}
pub use Rattle.ospf_base.specs.declared.event.event.WorldFault.{WorldFault}
pub use Rattle.ospf_world.specs.declared.logs.Run.{Run}
pub use Rattle.ospf_world.specs.declared.logs.Issued.{Issued}
pub use Rattle.ospf_world.specs.declared.logs.Datagram.{Datagram}
pub use Rattle.ospf_world.specs.declared.logs.Holding.{Holding}
use Rattle.ospf_base.specs.declared.event.event.WorldEvent.TheVariants.{Start, Stop, Tick as TickOf, LinkUp as LinkUpOf, LinkDown as LinkDownOf, Deliver}
use Rattle.ospf_base.specs.declared.event.event.WorldFault.TheVariants as fault

-- a running router with its routing table, the run of its keys since its start, and the later runs
-- of single keys
pub record Running : Type 0 where
  pub state : AreaValue
  pub table : List Route
  pub first : Run
  pub later : List (LsaKey × Run)

-- what the router lists (section 14: the LSAs below MaxAge)
abbrev pub listing : Running → List (List ℕ)
listing x = listed x.state.database

-- a router of a world: its Router ID, how many links it has, and how it runs, if it does
pub record Member : Type 0 where
  pub router : RouterId
  pub links : ℕ
  pub running : Option Running

-- a world: its routers, stopped or running, all datagrams ever sent, all LSAs ever issued, and who
-- ever installed, issued or acknowledged which instance
pub record World : Type 0 where
  pub routers : List Member
  pub datagrams : List Datagram
  pub issued : List Issued
  pub held : List Holding

-- the router, where it runs
unfoldable pub router_at : World → RouterId → Option Running
router_at w r = option_and_then (λ m. m.running) (find (λ m. m.router.0 == r.0) w.routers)

-- which router a world event steps, and with what. A lost datagram is one that is never delivered
abbrev pub stepped_by : World → WorldEvent → Option (RouterId × Event)
stepped_by w (Start r dd floor) = None
stepped_by w (Stop r) = None
stepped_by w (TickOf r) = Some (r, Tick)
stepped_by w (LinkUpOf r l) = Some (r, LinkUp l)
stepped_by w (LinkDownOf r l) = Some (r, LinkDown l)
stepped_by w (Deliver d r l) =
    option_map (λ g. (r, Event.Datagram l g.sent.source g.sent.destination g.sent.bytes))
    (slice_get w.datagrams d)

-- ---- what is refused

-- what a running router accepts
abbrev pub unless_stopped : Member → Option WorldFault
unless_stopped m = if is_some m.running then None else Some fault.NotRunning

-- what a stopped router accepts: a start, whose first number is above the floor (12.1.6)
abbrev pub unless_running : ℤ → Member → Option WorldFault
unless_running floor m =
    if is_some m.running then Some fault.Running
    else if int_eq floor max_sequence_number then Some fault.Floor
    else None

-- what it accepts on one of its links
abbrev pub fault_on_link : ℕ → Member → Option WorldFault
fault_on_link l m = if nat_lt l m.links then unless_stopped m else Some fault.NoLink

-- a datagram that was sent
abbrev pub with_datagram : Option Datagram → Member → Option WorldFault
with_datagram None m = Some fault.NoDatagram
with_datagram (Some g) m = unless_stopped m

-- and that comes in on one of its links
abbrev pub fault_of_delivery : ℕ → Option Datagram → Member → Option WorldFault
fault_of_delivery l g m = if nat_lt l m.links then with_datagram g m else Some fault.NoLink

-- by the router, if the world has it
abbrev pub of_member : (Member → Option WorldFault) → Option Member → Option WorldFault
of_member test None = Some fault.NoRouter
of_member test (Some m) = test m

-- the router of a Router ID, whether it runs or not
abbrev pub member : World → RouterId → Option Member
member w r = find (λ m. m.router.0 == r.0) w.routers

-- why a world refuses an event, if it does, the first that holds: there is no such router, no such
-- link, no such datagram; the router runs, or does not; a start has a floor with no number above it
abbrev pub refusal : World → WorldEvent → Option WorldFault
refusal w (Start r dd floor) = of_member (unless_running floor) (member w r)
refusal w (Stop r) = of_member unless_stopped (member w r)
refusal w (TickOf r) = of_member unless_stopped (member w r)
refusal w (LinkUpOf r l) = of_member (fault_on_link l) (member w r)
refusal w (LinkDownOf r l) = of_member (fault_on_link l) (member w r)
refusal w (Deliver d r l) = of_member (fault_of_delivery l (slice_get w.datagrams d)) (member w r)

-- ---- what happens

-- what a world never changes: its routers and their links
abbrev pub settings : World → List (RouterId × ℕ)
settings w = map (λ m. (m.router, m.links)) w.routers

-- router r becomes x, and no other router changes
pub record RouterBecomes (before after : World) (r : RouterId) (x : Option Running) : Type 0 where
  pub same_settings : settings after ≡ settings before
  pub becomes : router_at after r ≡ x
  pub others : (q : RouterId) → q ≢ r → router_at after q ≡ router_at before q

-- no log grows
pub record SameLogs (before after : World) : Type 0 where
  pub datagrams : after.datagrams ≡ before.datagrams
  pub issued : after.issued ≡ before.issued
  pub held : after.held ≡ before.held

-- the router's database is listed in order, and its table is that of the listing (16.1)
pub record HasItsTable (x : Running) : Type 0 where
  pub is_database : IsDatabase x.state.database
  pub is_listing : IsListing (listing x)
  pub is_table : IsTable (advertisements_of (listing x)) x.state.router x.table

-- a router as it starts: it can name nothing and asks for nothing, and its first run begins now
pub record IsRunningStarted (issued : List Issued) (r : RouterId) (floor : ℤ) (x : Running)
    : Type 0 where
  pub router : x.state.router ≡ r
  pub first : x.first ≡ record { name = length issued; base = floor }
  pub later : x.later ≡ []
  pub empty : (key : LsaKey) → copy_of x.state key ≡ None
  pub names_none : (i : Instance) → CanName x.state i → ⊥
  pub asks_none : (l : ℕ) (q : RouterId) (i : Instance) → Asks x.state l q i → ⊥
  pub numbers_none : (key : LsaKey) → kept_number x.state key ≡ floor
  pub table : HasItsTable x

-- the logs grow by exactly these outputs of router r
pub record LogsGrow (before after : World) (r : RouterId) (x : Running) (out : OutputsValue)
    : Type 0 where
  pub datagrams :
      after.datagrams ≡ before.datagrams ++ map (λ s. record { router = r; sent = s }) out.sent
  pub issued : after.issued ≡ before.issued
      ++ map (λ lsa. record { lsa = lsa; run = run_of x.first x.later (key_of lsa) }) out.issued
  pub held : after.held
      ≡ before.held
      ++ (map (λ i. record { router = r; instance = i }) out.taken
      ++ map (λ lsa. record { router = r; instance = instance_of lsa }) out.issued)

-- a run begins for each key whose run ended: its name is how many LSAs are issued by now
pub record RunsGoOn (issued : List Issued) (ended : List LsaKey) (x x' : Running) : Type 0 where
  pub first : x'.first ≡ x.first
  pub runs : (key : LsaKey)
      → run_of x'.first x'.later key
      ≡ (if among ended key then record { name = length issued; base = lowest_number }
      else run_of x.first x.later key)

-- router r, running as x, takes a step by the event, with the outputs `out`, and runs as x' then.
-- Of the step itself this asks only that it accounts for what the router sends, issues, holds and
-- waits for
pub record StepsRouter (before after : World) (r : RouterId) (event : Event) (x x' : Running)
    (out : OutputsValue) : Type 0 where
  pub was : router_at before r ≡ Some x
  pub changes : RouterBecomes before after r (Some x')
  pub accounts : Accounts (heard_in event) x.state out x'.state
  pub table : HasItsTable x'
  pub logs : LogsGrow before after r x out
  pub runs : RunsGoOn after.issued out.ended x x'

-- an event at which memory may run out before anything is done: a start, and a tick, where it is
-- logged
abbrev pub WantsRoom : WorldEvent → Type 0
WantsRoom (Start r dd floor) = ⊤
WantsRoom (TickOf r) = ⊤
WantsRoom _ = ⊥

-- what a world event does, and its result: it is refused, with the first fault that holds,
-- exactly where one does; or memory runs out, before anything is done (`Memory false`) or, at an
-- event that is not dropped, so that the router stops (`Memory true`); or the router starts, stops,
-- or takes a step. Which events a router drops may depend on the event and its state in any way
pub data Comes (is_dropped : Event → AreaValue → Bool) (event : WorldEvent) (before : World)
    (result : Result (Unit {0}) WorldFault) (after : World) : Type 0 where
  Refused : (f : WorldFault) → refusal before event ≡ Some f → result ≡ Err f → after ≡ before
      → Comes is_dropped event before result after
  NotDone : refusal before event ≡ None → result ≡ Err (fault.Memory false) → WantsRoom event
      → after ≡ before → Comes is_dropped event before result after
  MemoryStops : refusal before event ≡ None → result ≡ Err (fault.Memory true)
      → (r : RouterId) (e : Event) (x : Running) → stepped_by before event ≡ Some (r, e)
      → router_at before r ≡ Some x → is_dropped e x.state ≡ false
      → RouterBecomes before after r None → SameLogs before after
      → Comes is_dropped event before result after
  Starts : refusal before event ≡ None → result ≡ Ok tt
      → (r : RouterId) (dd : ℕ) (floor : ℤ) (x : Running) → event ≡ Start r dd floor
      → router_at before r ≡ None → RouterBecomes before after r (Some x)
      → IsRunningStarted before.issued r floor x → SameLogs before after
      → Comes is_dropped event before result after
  Stops : refusal before event ≡ None → result ≡ Ok tt → (r : RouterId) → event ≡ Stop r
      → RouterBecomes before after r None → SameLogs before after
      → Comes is_dropped event before result after
  Stepped : refusal before event ≡ None → result ≡ Ok tt
      → (r : RouterId) (e : Event) (x x' : Running) (out : OutputsValue)
      → stepped_by before event ≡ Some (r, e) → StepsRouter before after r e x x' out
      → Comes is_dropped event before result after

-- the event comes, whatever its result: it happens, or it is refused
abbrev pub Happens : (Event → AreaValue → Bool) → WorldEvent → World → World → Type 0
Happens is_dropped event before after =
    (result : Result (Unit {0}) WorldFault) × Comes is_dropped event before result after

-- the events lead from one world to the other, one after the other
abbrev pub RunsEvents : (Event → AreaValue → Bool) → List WorldEvent → World → World → Type 0
RunsEvents is_dropped [] before after = after ≡ before
RunsEvents is_dropped (event ∷ events) before after =
    (mid : World) × Happens is_dropped event before mid × RunsEvents is_dropped events mid after

-- a world in which nothing runs and nothing has happened
pub record IsNewWorld (w : World) : Type 0 where
  pub none_runs : (r : RouterId) → router_at w r ≡ None
  pub no_datagrams : w.datagrams ≡ []
  pub none_issued : w.issued ≡ []
  pub none_held : w.held ≡ []
