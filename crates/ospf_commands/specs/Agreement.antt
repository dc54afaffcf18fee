-- What follows if routers are expected to agree, and do.
use Rattle.std.specs.Prelude.{◌≡◌, Some, false, is_some, map, true}
use Rattle.ospf_base.specs.Sums.{contents}
use Rattle.ospf_base.specs.declared.ids.RouterId.{RouterId}
use Rattle.ospf_graph.specs.Advertisements.{IsListed}
use Rattle.ospf_world.specs.Headline.{IsReached}
use Rattle.ospf_world.specs.Listings.{ListTheSame}
use Rattle.ospf_world.specs.Walks.{AllListedAgree, adverts}
use Rattle.ospf_world.specs.World.{Running, World, listing, router_at}
use Rattle.ospf_router.specs.Steps.{is_dropped}
use Rattle.ospf_script.specs.Words.{Text}
use Rattle.ospf_world.specs.Worlds.{WorldValue, world_of}
use Rattle.ospf_commands.specs.Judged.{IsOfAll, some_run}
use Rattle.ospf_commands.specs.Simulations.{Answer}

-- `expect agree` is met in this network
abbrev pub IsAgreed : WorldValue → Type 0
IsAgreed w = (answer : Answer) × (text : Text) × IsOfAll w answer text false

-- two routers have the same listing: each LSA is the same except for its age
abbrev pub ListOneThing : Running → Running → Type 0
ListOneThing x y = map contents (listing x) ≡ map contents (listing y)

-- any two running routers do
abbrev pub RunningListOneThing : World → Type 0
RunningListOneThing w =
    (r q : RouterId) (x y : Running) → router_at w r ≡ Some x → router_at w q ≡ Some y
    → ListOneThing x y

-- any two running routers list the same instances
abbrev pub RunningListTheSame : World → Type 0
RunningListTheSame w =
    (r q : RouterId) (x y : Running) → router_at w r ≡ Some x → router_at w q ≡ Some y
    → ListTheSame (listing x) (listing y)

-- each router that this one lists runs
abbrev pub AllListedRun : World → Running → Type 0
AllListedRun w x = (q : RouterId) → IsListed (adverts x) q → is_some (router_at w q) ≡ true

-- if `expect agree` is met in a network that events led to, a router runs
abbrev pub AgreedRun : Type 0
AgreedRun =
    (w : WorldValue) → IsReached is_dropped (world_of w) → IsAgreed w → some_run w.slots ≡ true

-- all running routers list the same LSAs
abbrev pub AgreedListOneThing : Type 0
AgreedListOneThing =
    (w : WorldValue) → IsReached is_dropped (world_of w) → IsAgreed w
    → RunningListOneThing (world_of w)

-- so they list the same instances
abbrev pub AgreedListTheSame : Type 0
AgreedListTheSame =
    (w : WorldValue) → IsReached is_dropped (world_of w) → IsAgreed w
    → RunningListTheSame (world_of w)

-- and if all routers that a router lists run, this is the condition of the headline for walks
abbrev pub AgreedWalksMayArrive : Type 0
AgreedWalksMayArrive =
    (w : WorldValue) → IsReached is_dropped (world_of w) → IsAgreed w
    → (r : RouterId) (x : Running) → router_at (world_of w) r ≡ Some x
    → AllListedRun (world_of w) x → AllListedAgree (world_of w) x
