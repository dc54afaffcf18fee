-- Running routers: how they begin, and how they end.
use Rattle.std.specs.Prelude.{⊤, ◌≡◌, ◌+◌, ℕ, ℤ, Bool, false, List, [], ◌∷◌, Option, None, Some, Result, Ok, Err, is_some, option_map, string_bytes}
use Rattle.std.specs.Io.KnownBytes.{Appends}
use Rattle.ospf_base.specs.declared.ids.Addr.{Addr}
use Rattle.ospf_config.specs.declared.config.Config.{Config}
use Rattle.ospf_drive.specs.Driven.{DrivesToEnd, IsDriven, Outcome as Driven}
use Rattle.ospf_drive.specs.Machines.{Rules}
use Rattle.ospf_drive.specs.Moments.{Moment}
use Rattle.ospf_drive.specs.Traffic.{EndsAfter, ticks_in}
use Rattle.ospf_drive.specs.Traffic.Carried.{Ticks}
use Rattle.ospf_drive.specs.declared.fault.DriveFault.{DriveFault}
use Rattle.ospf_drive.specs.declared.span.Span.{Span}
use Rattle.ospf_fib.specs.Answers.{IsAnswerOfLast}
use Rattle.ospf_files.specs.Streams.{Written}
use Rattle.ospf_files.specs.declared.status.Status.{Status}
use Rattle.ospf_files.specs.declared.files.NamedFile.{NamedFile}
use Rattle.ospf_fib.specs.PrefixIndex.Known.{Known, Table, opening}
use Rattle.ospf_router.specs.Routers.{RouterValue}
use Rattle.ospf_router.specs.Starts.{IsStarted}
use Rattle.ospf_run.specs.Lookups.{IsFrom}
use Rattle.ospf_drive.specs.UdpWire.Obstacles.{Hinders, obstacle_line, obstacle_status}
use Rattle.ospf_drive.specs.UdpWire.Plans.{IsPlan}
use Rattle.ospf_run.specs.Printed.{AreOutcomesReported}
use Rattle.ospf_run.specs.declared.outcome.Extras.{Extras}
use Rattle.ospf_run.specs.declared.outcome.Looked.{Looked}
use Rattle.ospf_run.specs.declared.outcome.Outcome.{Outcome}
use Rattle.ospf_run.specs.declared.outcome.RouterShown.{RouterShown}
use Rattle.ospf_run.specs.declared.look.RouterSeat.{RouterSeat}
use Rattle.ospf_drive.specs.declared.udp.plan.Plan.{Plan}
use Rattle.ospf_drive.specs.declared.udp.stop.Obstacle.{Obstacle}
use Rattle.ospf_run.specs.declared.settings.Settings.{Settings}

-- a router begins with its configuration, DD sequence number 1 and the floor,
-- and the empty table is published
pub record BeginsRun (floor : ℤ) (config : Config) (router : RouterValue) (known : Known)
    : Type 0 where
  pub started : IsStarted config 1 floor router
  pub opened : known.tables ≡ opening

-- what routers begin with besides their configurations: when they end, and the floor of their
-- numbers
pub record Terms : Type 0 where
  pub span : Span
  pub floor : ℤ

-- what a lookup in the table that was published last finds, if an address was given
abbrev pub IsLookedUp : Option Addr → List Table → Option Looked → Type 0
IsLookedUp None tables None = ⊤
IsLookedUp (Some address) tables (Some looked) =
    (looked.address ≡ address) × IsAnswerOfLast tables address 0 looked.answer
IsLookedUp _ tables _ = ⊥

-- a driver that began there reached an end, by the rules of its machine and with this router; the
-- span of its wire lets it end after as many ticks as were taken; and the lookup is in the table
-- that it published last
pub record ComesToEnd (rules : Rules) (lookup : Option Addr) (a : Moment) (shown : RouterShown)
    : Type 0 where
  pub known : Known
  pub told : Option Known
  pub drives : DrivesToEnd rules a shown.router known told
  pub ticked : (handed : ℕ) (span : Span) → a.traffic ≡ Ticks handed span
      → EndsAfter span (handed + ticks_in drives.drives.goes_on.taken)
  pub looked : IsLookedUp lookup known.tables shown.looked

-- the result of a router: its driver began there and reached an end, or it failed
abbrev pub Came : Rules → Option Addr → Moment → Result RouterShown DriveFault → Type 0
Came rules lookup a (Ok shown) = ComesToEnd rules lookup a shown
Came rules lookup a (Err f) = IsDriven rules a (Err f)

-- the router of a configuration begins over a wire with the span, and this is its outcome
pub record IsOutcome (rules : Rules) (lookup : Option Addr) (terms : Terms) (file : NamedFile)
    (config : Config) (outcome : Outcome) : Type 0 where
  pub file_is : outcome.file.now ≡ file
  pub router_is : outcome.router ≡ config.router_id
  pub a : Moment
  pub begins : BeginsRun terms.floor config a.router a.known
  pub counted : a.traffic ≡ Ticks 0 terms.span
  pub came : Came rules lookup a outcome.came

-- the outcomes of the routers of files, in their order
abbrev pub AreOutcomes : Rules → Option Addr → Terms → List NamedFile → List Config → List Outcome
    → Type 0
AreOutcomes rules lookup terms [] [] [] = ⊤
AreOutcomes rules lookup terms (file ∷ files) (config ∷ configs) (outcome ∷ outcomes) =
    IsOutcome rules lookup terms file config outcome
    × AreOutcomes rules lookup terms files configs outcomes
AreOutcomes rules lookup terms _ _ _ = ⊥

-- ---- what is requested

-- what is requested of a run: an address to look up, when it ends, the text of a floor, and what
-- must be printed of each router
pub record Asked : Type 0 where
  pub lookup : Option Addr
  pub span : Span
  pub floor : Option (List ℕ)
  pub neighbours : Bool
  pub listing : Bool
  pub lsdb : Bool
  pub drops : Bool

-- the text of the requested floor
abbrev pub floor_of : Settings → Option (List ℕ)
floor_of settings = option_map string_bytes settings.floor

-- the run ends after this many ticks, if there is a last one, or when it is asked to end
abbrev pub span_of : Settings → Span
span_of settings = record { ticks = settings.ticks; may_be_told = is_some settings.ending }

-- what the settings request
abbrev pub asked_of : Settings → Asked
asked_of settings = record {
  lookup = settings.lookup;
  span = span_of settings;
  floor = floor_of settings;
  neighbours = settings.neighbours;
  listing = settings.listing;
  lsdb = settings.lsdb;
  drops = settings.drops;
}

-- what is printed besides tables and lookups: neighbours, listing and LSDB, if requested; no drops,
-- if they are not requested; and a floor, if one is given
pub record AreExtras (asked : Asked) (extras : Extras) : Type 0 where
  pub neighbours : extras.neighbours ≡ asked.neighbours
  pub listing : extras.listing ≡ asked.listing
  pub lsdb : extras.lsdb ≡ asked.lsdb
  pub no_drops : asked.drops ≡ false → extras.drops.items ≡ []
  pub floor : extras.floor ≡ is_some asked.floor

-- ---- intermediate results

-- the outcomes of the routers of a plan, in their order, with these settings
abbrev pub ComeOf : Rules → Settings → Plan → List NamedFile → List Outcome → Type 0
ComeOf rules settings plan files outcomes =
    AreOutcomes rules settings.lookup (record { span = span_of settings; floor = plan.floor }) files
    plan.configs.items outcomes

-- what the last publish of a driver returned: all that its writer has published; nothing if that is
-- only the empty table
abbrev pub IsPublishTold : Known → Option Known → Type 0
IsPublishTold known None = known.tables ≡ opening
IsPublishTold known (Some told) = told ≡ known

-- a driver that began there has ended, and so has the thread that looks up from its seat
pub record Ran (rules : Rules) (a : Moment) (driven : Driven) (router_seat : RouterSeat)
    : Type 0 where
  pub opened : a.known.tables ≡ opening
  pub ended : IsDriven rules a driven
  pub looks : IsFrom a.known router_seat

-- the router of a configuration began; its driver and its seat ended like this
pub record RouterRan (rules : Rules) (terms : Terms) (config : Config) (driven : Driven)
    (router_seat : RouterSeat) : Type 0 where
  pub a : Moment
  pub begins : BeginsRun terms.floor config a.router a.known
  pub counted : a.traffic ≡ Ticks 0 terms.span
  pub ended : IsDriven rules a driven
  pub looks : IsFrom a.known router_seat

-- the same for all routers, one for each configuration
abbrev pub RoutersRan : Rules → Terms → List Config → List Driven → List RouterSeat → Type 0
RoutersRan rules terms [] [] [] = ⊤
RoutersRan rules terms (config ∷ configs) (driven ∷ drivens) (router_seat ∷ router_seats) =
    RouterRan rules terms config driven router_seat
    × RoutersRan rules terms configs drivens router_seats
RoutersRan rules terms _ _ _ = ⊥

-- ---- runs

-- machines with these rules ran the plan of the files, with the span, and these are the outcomes of
-- its routers
pub record HaveRun (rules : Rules) (asked : Asked) (files : List NamedFile)
    (outcomes : List Outcome) : Type 0 where
  pub configs : List Config
  pub least : ℤ
  pub plan : IsPlan asked.floor files configs least
  pub are : AreOutcomes rules asked.lookup (record { span = asked.span; floor = least }) files
      configs outcomes

-- what keeps the routers of the files from running is reported, with its status, and nothing else
-- is written
pub record IsHindered (asked : Asked) (files : List NamedFile) (status : Status) (old new : Written)
    : Type 0 where
  pub obstacle : Obstacle
  pub hinders : Hinders asked.floor files obstacle
  pub status_is : status ≡ obstacle_status obstacle
  pub told : Appends old.err new.err (obstacle_line obstacle)
  pub unwritten : new.out ≡ old.out

-- the plan of the files was run: the outcome of each router is printed or reported, with the extras
-- that were requested
pub record IsPlanRun (rules : Rules) (asked : Asked) (files : List NamedFile) (status : Status)
    (old new : Written) : Type 0 where
  pub outcomes : List Outcome
  pub extras : Extras
  pub run : HaveRun rules asked files outcomes
  pub wanted : AreExtras asked extras
  pub reported : AreOutcomesReported extras outcomes status old new

-- how a run ends: something keeps the routers from running, or they have run
pub data ComesOfRun (rules : Rules) (asked : Asked) (files : List NamedFile) (status : Status)
    (old new : Written) : Type 0 where
  hindered : IsHindered asked files status old new → ComesOfRun rules asked files status old new
  ran : IsPlanRun rules asked files status old new → ComesOfRun rules asked files status old new

-- the plan of the files was run as requested, with these outcomes of its routers and these extras
-- to print
abbrev pub RunsTo : Rules → Settings → List NamedFile → List Outcome → Extras → Type 0
RunsTo rules settings files outcomes extras =
    HaveRun rules (asked_of settings) files outcomes × AreExtras (asked_of settings) extras
