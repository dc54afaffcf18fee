-- Laws of whole lists of steps: whatever happens to a router, each of its steps keeps the laws of a
-- step (RFC 2328, sections 8 to 13).
use Rattle.std.specs.Prelude.{◌≡◌, ⊤, List, [], ◌∷◌, Option, Some, Result}
use Rattle.ospf_area.specs.State.{AreaValue}
use Rattle.ospf_fib.specs.PrefixIndex.Known.{Known}
use Rattle.ospf_router.specs.Chains.{AllKeep, AreSteps, HasKeptState}
use Rattle.ospf_router.specs.Laws.{KeepsLaws}
use Rattle.ospf_router.specs.AreaStep.Lawful.{IsLawful}
use Rattle.ospf_router.specs.Routers.{RouterValue}
use Rattle.ospf_drive.specs.Machines.{AreRouterRules, Rules, router_rules}
use Rattle.ospf_drive.specs.Moments.{Done, IsChain, Moment}
use Rattle.ospf_drive.specs.Whole.{Whole}
use Rattle.ospf_drive.specs.declared.fault.DriveFault.{DriveFault}

-- the step was made by a router that runs and left it running, and its laws hold
pub record IsLawfulStep (before : RouterValue) (d : Done) : Type 0 where
  pub area : AreaValue
  pub next : AreaValue
  pub runs : before.area ≡ Some area
  pub is : d.after.area ≡ Some next
  pub lawful : IsLawful d.event area d.gives.out next

-- each step of a list keeps the laws, from where the one before left the router
abbrev pub AreLawful : RouterValue → List Done → Type 0
AreLawful old [] = ⊤
AreLawful old (d ∷ ds) = IsLawfulStep old d × AreLawful d.after ds

-- so all lists of exact steps from this router are lawful
abbrev pub ChainsFrom : RouterValue → Type 0
ChainsFrom r = (ds : List Done) → IsChain router_rules r ds → AreLawful r ds

-- and that holds of each router that is kept
abbrev pub ChainsAreLawful : Type 0
ChainsAreLawful = (r : RouterValue) → HasKeptState r → ChainsFrom r

-- a whole call of a driver; and if its machine goes by the rules of a router, its steps follow on
-- one another by the exact rules, and each of them keeps all nine laws of a step
pub record KeepsThroughout (rules : Rules) (a b : Moment)
    (result : Result (Option Known) DriveFault) : Type 0 where
  pub whole : Whole rules a b result
  pub keep : AreRouterRules rules
      → (are : AreSteps a.router whole.steps) × AllKeep KeepsLaws a.router whole.steps are
