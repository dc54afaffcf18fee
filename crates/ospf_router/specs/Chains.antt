-- Of which steps a law holds: each exact step of a router that is kept, and each list of them.
use Rattle.std.specs.Prelude.{◌≡◌, ⊤, ℕ, ℤ, List, [], ◌∷◌, Some}
use Rattle.ospf_area.specs.State.{AreaValue}
use Rattle.ospf_config.specs.declared.config.Config.{Config}
use Rattle.ospf_router.specs.Stepped.{Stepped, stepped}
use Rattle.ospf_router.specs.AreaStep.Step.{Event}
use Rattle.ospf_router.specs.Routers.{IsKept, RouterValue}
use Rattle.ospf_router.specs.Starts.{IsStarted}
use Rattle.ospf_router.specs.Steps.{Steps}
use Rattle.ospf_router.specs.declared.router.Step.{Step}

-- the router is one whose steps are lawful: a `Router` always is, from its start on
-- (`Router::keeps`)
abbrev pub HasKeptState : RouterValue → Type 0
HasKeptState r = (s : AreaValue) → r.area ≡ Some s → IsKept s

-- each router that has just started is such a one
abbrev pub StartedAreKept : Type 0
StartedAreKept =
    (config : Config) (dd_start : ℕ) (floor : ℤ) (r : RouterValue)
    → IsStarted config dd_start floor r → HasKeptState r

-- a law holds of each step by the exact rules
abbrev pub OfEachStep : (Stepped → Type 0) → Type 0
OfEachStep Law =
    (e : Event) (before : RouterValue) (t : Step) (after : RouterValue) → HasKeptState before
    → (is : Steps e before t after) → Law (stepped e before t after is)

-- a step that was made: what happened, what the step gave, and the router after it
pub record Done : Type 0 where
  pub event : Event
  pub gives : Step
  pub after : RouterValue

-- the steps follow on one another from a router, each by the exact rules
abbrev pub AreSteps : RouterValue → List Done → Type 0
AreSteps r [] = ⊤
AreSteps r (m ∷ ms) = Steps m.event r m.gives m.after × AreSteps m.after ms

-- a law holds of each of them
abbrev pub AllKeep : (Law : Stepped → Type 0) (r : RouterValue) (ms : List Done)
    → AreSteps r ms → Type 0
AllKeep Law r [] is = ⊤
AllKeep Law r (m ∷ ms) (one, rest) =
    Law (stepped m.event r m.gives m.after one) × AllKeep Law m.after ms rest

-- a law holds of each step of each list of exact steps
abbrev pub OfEachList : (Stepped → Type 0) → Type 0
OfEachList Law =
    (r : RouterValue) (ms : List Done) → HasKeptState r → (are : AreSteps r ms)
    → AllKeep Law r ms are
