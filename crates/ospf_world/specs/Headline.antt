-- What holds for each world that some list of events leads to.
use Rattle.std.specs.Prelude.{◌≡◌, ℕ, Bool, List, Some}
use Rattle.ospf_base.specs.declared.ids.RouterId.{RouterId}
use Rattle.ospf_base.specs.Sums.{contents}
use Rattle.ospf_graph.specs.Routes.{IsTable}
use Rattle.ospf_area.specs.State.{AreaValue}
use Rattle.ospf_router.specs.AreaStep.Step.{Event}
use Rattle.ospf_world.specs.World.{World, WorldEvent, Running, router_at, IsNewWorld, RunsEvents}
use Rattle.ospf_world.specs.Sound.{HeldAnywhere, WasIssued, AgreeUnlessIssuedAgain, BasesAreHigh, NoCollision}
use Rattle.ospf_world.specs.Walks.{adverts, AllListedAgree, AllReachedAgree, RunningWalksArrive, ChosenWalksArrive}

-- these events led here from a world in which nothing ran and nothing had happened
pub record IsReachedBy (is_dropped : Event → AreaValue → Bool) (events : List WorldEvent)
    (w : World) : Type 0 where
  pub start : World
  pub new : IsNewWorld start
  pub runs : RunsEvents is_dropped events start w

-- some events led to this world from one in which no router runs and nothing has happened
abbrev pub IsReached : (Event → AreaValue → Bool) → World → Type 0
IsReached is_dropped w = (events : List WorldEvent) × IsReachedBy is_dropped events w

-- the headline, of a world at one moment and at a later one
pub record Headline (before after : World) : Type 0 where
  -- what is held anywhere was issued, at whatever age
  pub were_issued : (lsa : List ℕ) → HeldAnywhere after lsa → WasIssued after.issued (contents lsa)
  -- LSAs of one instance have equal contents, unless both contents were issued, in
  -- two runs, the second a low one
  pub held_agree : (a b : List ℕ) → HeldAnywhere before a → HeldAnywhere after b
      → AgreeUnlessIssuedAgain after.issued a b
  pub held_agree_now : (a b : List ℕ) → HeldAnywhere after a → HeldAnywhere after b
      → AgreeUnlessIssuedAgain after.issued a b
  -- each running router has a route to each prefix that it can reach by its own listing, and no
  -- other: at the least cost, and with exactly the next hops of the least paths that count
  pub tables : (r : RouterId) (x : Running) → router_at after r ≡ Some x
      → IsTable (adverts x) r x.table
  -- where nothing issued collides and all listed routers run and list the same, each walk arrives
  pub walks : (r : RouterId) (x : Running) → NoCollision after.issued → router_at after r ≡ Some x
      → AllListedAgree after x → RunningWalksArrive after r x
  pub chosen : (r : RouterId) (x : Running) → NoCollision after.issued → router_at after r ≡ Some x
      → AllListedAgree after x → ChosenWalksArrive after r x
  -- and also where the routers that it reaches agree, whatever else is listed
  pub reached_walks : (r : RouterId) (x : Running) → NoCollision after.issued
      → router_at after r ≡ Some x → AllReachedAgree after r x → RunningWalksArrive after r x
  pub reached_chosen : (r : RouterId) (x : Running) → NoCollision after.issued
      → router_at after r ≡ Some x → AllReachedAgree after r x → ChosenWalksArrive after r x
  -- where each run began above all that its router had issued, nothing issued collides
  pub no_collision : BasesAreHigh after.issued → NoCollision after.issued
