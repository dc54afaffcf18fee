-- A law of each step is one of each list of steps, since a step leaves a router that is kept.
use Rattle.std.proofs.Common.{◌≡◌, List, [], ◌∷◌, Some, sym, subst, ◌∙◌}
use Rattle.std.proofs.lemmas.Option.{same_Some}
use Rattle.ospf_router.specs.Chains.{AllKeep, AreSteps, Done, HasKeptState, OfEachList, OfEachStep}
use Rattle.ospf_router.specs.Stepped.{Stepped}
use Rattle.ospf_router.specs.AreaStep.Lawful.{StepsStayKept}
use Rattle.ospf_router.specs.AreaStep.Step.{Event}
use Rattle.ospf_router.specs.Routers.{IsKept, RouterValue}
use Rattle.ospf_router.specs.Steps.{Steps}
use Rattle.ospf_router.specs.declared.router.Step.{Step}

stays_kept : StepsStayKept → (e : Event) (before : RouterValue) (t : Step) (after : RouterValue) → HasKeptState before → Steps e before t after → HasKeptState after
stays_kept stays e before t after kept is =
    let k : IsKept is.area = kept is.area is.runs in
    let next = stays e is.area t.dropped t.out is.next k.fit k.sound is.steps in
    λ s at. subst IsKept (same_Some is.next s (sym is.is ∙ at)) (record { fit = next.0; sound = next.1 })

module _ (Law : Stepped → Type 0) (law : OfEachStep Law) (stays : StepsStayKept) where
  pub of_lists : OfEachList Law
  of_lists r [] kept are = tt
  of_lists r (m ∷ ms) kept (one, rest) = (law m.event r m.gives m.after kept one, of_lists m.after ms (stays_kept stays m.event r m.gives m.after kept one) rest)
