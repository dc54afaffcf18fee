-- What the journal of a simulation writes for the events that are reported to it.
use Rattle.std.specs.Prelude.{◌≡◌, ◌≢◌, ◌+◌, ◌-◌, ◌^◌, ◌&&◌, ℕ, Bool, true, false, List, Option, None, Some, IfSome, IsSome, Result, drop, is_some, length, map, max, min, option_map, slice_get, unwrap_or, if◌then◌else◌}
use Rattle.std.specs.BTreeMap.{is_at}
use Rattle.std.specs.Map.{lookup}
use Rattle.std.specs.Ordering.{nat_cmp}
use Rattle.std.specs.Result.{is_ok}
use Rattle.std.specs.Io.KnownBytes.{Appends}
use Rattle.ospf_base.specs.declared.ids.Instance.{Instance}
use Rattle.ospf_base.specs.declared.ids.RouterId.{RouterId}
use Rattle.ospf_files.specs.Streams.{IsBegun, IsOutputCut}
use Rattle.ospf_world.specs.Running.{delivery}
use Rattle.ospf_base.specs.Events.Events.{router_in}
use Rattle.ospf_world.specs.World.{Running, router_at}
use Rattle.ospf_base.specs.declared.event.event.WorldEvent.{WorldEvent}
use Rattle.ospf_base.specs.declared.event.event.WorldEvent.TheVariants.{Start, Stop, Tick, LinkUp, LinkDown, Deliver}
use Rattle.ospf_base.specs.declared.event.event.WorldFault.{WorldFault}
use Rattle.ospf_world.specs.declared.logs.Datagram.{Datagram}
use Rattle.ospf_world.specs.declared.logs.Issued.{Issued}
use Rattle.ospf_journal.specs.Causes.{cause_of}
use Rattle.ospf_journal.specs.Changes.{AreChanges}
use Rattle.ospf_journal.specs.Reports.{ReportedValue, nothing_reported}
use Rattle.ospf_journal.specs.Seen.{SeenValue, nothing_seen, seen_links, seen_owns}
use Rattle.ospf_journal.specs.declared.change.DroppedAt.{DroppedAt}
use Rattle.ospf_journal.specs.declared.change.RouterChange.{RouterChange}
use Rattle.ospf_world.specs.Watching.{ComesRule}
use Rattle.ospf_world.specs.Worlds.{WorldValue, world_of}
use Rattle.ospf_lsa.specs.Lsa.{instance_of}
use Rattle.ospf_views.specs.RecordFiles.Journals.{JournalValue, entries_text, without_memory}
use Rattle.ospf_sim.specs.declared.events.Coming.{Coming}

-- ---- what is stored

-- of a router: what was last seen of it, and how many ticks it has taken, up to the limit of 64
-- bits
pub record FollowedRouter : Type 0 where
  pub seen : SeenValue
  pub ticks : ℕ

-- of a router that no event has named yet
abbrev pub not_followed : FollowedRouter
not_followed = record { seen = nothing_seen; ticks = 0 }

-- of the router with this Router ID, from the map of all routers
abbrev pub followed_in : List (RouterId × FollowedRouter) → RouterId → FollowedRouter
followed_in routers q =
    unwrap_or (lookup (is_at (λ k. nat_cmp q.0 k.0)) routers) not_followed

-- of a simulation: the journal, if one is written; the state stored for each router; what was known
-- before the current event; and the most ticks that a router has taken
pub record EventsValue : Type 0 where
  pub journal : Option JournalValue
  pub routers : List (RouterId × FollowedRouter)
  pub coming : Coming
  pub most_ticks : ℕ

-- before the first event
abbrev pub nothing_coming : Coming
nothing_coming = record { dropped = None; issued = 0 }

-- the state stored for one of its routers
abbrev pub followed_of : EventsValue → RouterId → FollowedRouter
followed_of e q = followed_in e.routers q

-- ---- before an event

-- why a router drops a sent datagram that arrives on a link, if it runs and drops it
abbrev pub delivery_drop : ℕ → Option Datagram → Option Running → Option DroppedAt
delivery_drop link None x = None
delivery_drop link (Some g) x =
    option_map (λ cause. record { link = link; source = g.sent.source; cause = cause })
    (cause_of (delivery link g) (option_map (λ x. x.state) x))

-- why the event's datagram is dropped: only a delivery has one
abbrev pub drop_coming : WorldValue → WorldEvent → Option DroppedAt
drop_coming w (Start q dd floor) = None
drop_coming w (Stop q) = None
drop_coming w (Tick q) = None
drop_coming w (LinkUp q link) = None
drop_coming w (LinkDown q link) = None
drop_coming w (Deliver d q link) =
    delivery_drop link (slice_get w.logs.datagrams d) (router_at (world_of w) q)

-- what is known before an event: why it will be dropped, and how many LSAs were issued so far
abbrev pub known_before : WorldValue → WorldEvent → Coming
known_before w event = record { dropped = drop_coming w event; issued = length w.logs.issued }

-- an event is about to happen: where a journal is written, this is looked up
abbrev pub LooksAhead : ComesRule EventsValue
LooksAhead w event before after =
    after
    ≡ record before {
      coming = if is_some before.journal then known_before w event else before.coming;
    }

-- ---- after an event

-- what is seen of a router in this state, or of one that does not run
abbrev pub seen_running : Option Running → SeenValue
seen_running None = nothing_seen
seen_running (Some x) = record {
  links = seen_links (Some x.state);
  own = seen_owns (Some x.state);
  table = x.table;
}

-- what is seen of a router of a world
abbrev pub seen_in : WorldValue → RouterId → SeenValue
seen_in w q = seen_running (router_at (world_of w) q)

-- the instance of an LSA that was issued (12.1)
abbrev pub issued_instance : Issued → Instance
issued_instance i = instance_of i.lsa

-- what an event reported, given what was known before it: why it was dropped, and the LSAs added to
-- the log of issued LSAs since. A refused event reports nothing
abbrev pub report_taken : WorldValue → Result (Unit {0}) WorldFault → Coming → ReportedValue
report_taken w answer before =
    if is_ok answer then record {
      dropped = before.dropped;
      issued = map issued_instance (drop before.issued w.logs.issued);
    }
    else nothing_reported

-- the report on a router of a world: nothing if the router does not run
abbrev pub report_seen : WorldValue → RouterId → ReportedValue → ReportedValue
report_seen w q reported = if is_some (router_at (world_of w) q) then reported else nothing_reported

-- what an event reported on its router
abbrev pub report_of : WorldValue → RouterId → Result (Unit {0}) WorldFault → Coming
    → ReportedValue
report_of w q answer before = report_seen w q (report_taken w answer before)

-- it is a tick
abbrev pub is_tick : WorldEvent → Bool
is_tick (Start q dd floor) = false
is_tick (Stop q) = false
is_tick (Tick q) = true
is_tick (LinkUp q link) = false
is_tick (LinkDown q link) = false
is_tick (Deliver d q link) = false

-- how many ticks its router has taken after the event: one more after a tick that was not refused
abbrev pub ticks_then : WorldEvent → Result (Unit {0}) WorldFault → ℕ → ℕ
ticks_then event answer ticks =
    if is_tick event && is_ok answer then min (ticks + 1) (2 ^ 64 - 1) else ticks

-- the journal continues with these changes of a router, each with this tick: it has them all, or a
-- beginning of them and a failure: memory ran out, or the file was not written. A journal that has
-- failed stays unchanged
pub record JournalGoesOn (tick : ℕ) (q : RouterId) (changes : List RouterChange)
    (before after : JournalValue) : Type 0 where
  pub settings : after.is_json ≡ before.is_json
  pub written : after.failure ≡ None
      → Appends before.contents after.contents (entries_text before.is_json tick q changes)
  pub begun : IsBegun before.contents after.contents (entries_text before.is_json tick q changes)
  pub cut : before.failure ≡ None → IfSome after.failure (IsOutputCut after.streams)
  pub ended : IsSome before.failure → after ≡ before

-- for the router that an event names, the stored state and tick count are updated; what changed,
-- with what the event reported, goes into the journal, with the most ticks that a router has taken
pub record IsJournalled (w : WorldValue) (event : WorldEvent)
    (answer : Result (Unit {0}) WorldFault) (before after : EventsValue) (j j' : JournalValue)
    : Type 0 where
  pub seen : (followed_of after (router_in event)).seen ≡ seen_in w (router_in event)
  pub ticks : (followed_of after (router_in event)).ticks
      ≡ ticks_then event answer (followed_of before (router_in event)).ticks
  pub most : after.most_ticks ≡ max before.most_ticks (followed_of after (router_in event)).ticks
  pub changes : List RouterChange
  pub are_changes : AreChanges (followed_of before (router_in event)).seen
      (seen_in w (router_in event))
      (report_of w (router_in event) answer before.coming) changes
  pub goes_on : JournalGoesOn after.most_ticks (router_in event) changes j j'

-- the routers that an event does not name stay unchanged
abbrev pub OthersStay : WorldEvent → EventsValue → EventsValue → Type 0
OthersStay event before after =
    (q : RouterId) → q ≢ router_in event → followed_of after q ≡ followed_of before q

-- the effect of an event on the journal: where none is written nothing changes. Where one is, what
-- changed goes into it; or memory ran out, and nothing is written from then on
pub data FollowsEvent (w : WorldValue) (event : WorldEvent) (answer : Result (Unit {0}) WorldFault)
    (before after : EventsValue) : Type 0 where
  NoJournal : before.journal ≡ None → after ≡ before → FollowsEvent w event answer before after
  Journalled : (j j' : JournalValue) → before.journal ≡ Some j → after.journal ≡ Some j'
      → after.coming ≡ before.coming → OthersStay event before after
      → IsJournalled w event answer before after j j' → FollowsEvent w event answer before after
  NoMemory : (j : JournalValue) → before.journal ≡ Some j
      → after.journal ≡ Some (without_memory j) → after.coming ≡ before.coming
      → OthersStay event before after → FollowsEvent w event answer before after
