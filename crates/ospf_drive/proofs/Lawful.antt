-- Each step of a list of exact steps keeps the laws of a step.
use Rattle.std.proofs.Common.{List, [], ◌∷◌, Option, Result, sym, subst, ◌∙◌}
use Rattle.std.proofs.lemmas.Option.{same_Some}
use Rattle.ospf_router.specs.Routers.{IsKept, RouterValue}
use Rattle.ospf_router.specs.Steps.{Steps}
use Rattle.ospf_router.specs.AreaStep.Lawful.{StepsAreLawful, StepsStayKept}
use Rattle.ospf_router.specs.Chains.{AreSteps, HasKeptState, OfEachList}
use Rattle.ospf_router.specs.Laws.{KeepsLaws}
use Rattle.ospf_drive.specs.Chains.{AreLawful, IsLawfulStep, KeepsThroughout}
use Rattle.ospf_drive.specs.Machines.{AreRouterRules, Rules, router_rules}
use Rattle.ospf_drive.specs.Moments.{Done, IsChain, Moment}
use Rattle.ospf_drive.specs.Whole.{Whole}
use Rattle.ospf_drive.specs.declared.fault.DriveFault.{DriveFault}
use Rattle.ospf_fib.specs.PrefixIndex.Known.{Known}

module _ (lawful : StepsAreLawful) (stays : StepsStayKept) where
  step_is : (old : RouterValue) (d : Done) → HasKeptState old → Steps d.event old d.gives d.after
      → IsLawfulStep old d × HasKeptState d.after
  step_is old d kept steps =
      let before : IsKept steps.area = kept steps.area steps.runs in
      let next = stays d.event steps.area d.gives.dropped d.gives.out steps.next before.fit before.sound steps.steps in
      let after : IsKept steps.next = record { fit = next.0; sound = next.1 } in (
        record {
          area = steps.area;
          next = steps.next;
          runs = steps.runs;
          is = steps.is;
          lawful = lawful d.event steps.area d.gives.dropped d.gives.out steps.next before.fit before.sound steps.steps;
        },
        (λ s is. subst IsKept (same_Some steps.next s (sym steps.is ∙ is)) after),
      )

  pub chain_is : (old : RouterValue) (ds : List Done) → HasKeptState old → IsChain router_rules old ds → AreLawful old ds
  chain_is old [] kept is = tt
  chain_is old (d ∷ ds) kept is =
      let here = step_is old d kept is.0 in
      (here.0, chain_is d.after ds here.1 is.1)

-- ---- all nine laws, throughout a call

exact_chain : (rules : Rules) → AreRouterRules rules → (old : RouterValue) (ds : List Done) → IsChain rules old ds → AreSteps old ds
exact_chain rules are old [] is = tt
exact_chain rules are old (d ∷ ds) is = ((are.steps d.event old d.gives d.after).0 is.0, exact_chain rules are d.after ds is.1)

pub throughout : OfEachList KeepsLaws → (rules : Rules) (a b : Moment) (result : Result (Option Known) DriveFault) → Whole rules a b result → HasKeptState a.router → KeepsThroughout rules a b result
throughout law rules a b result whole kept = record {
  whole = whole;
  keep = λ are.
      let steps = exact_chain rules are a.router whole.steps whole.chain in
      (steps, law a.router whole.steps kept steps);
}
