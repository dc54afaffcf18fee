use Rattle.std.proofs.Common.{sym, subst}
use Rattle.ospf_area.specs.State.{AreaValue}
use Rattle.ospf_router.specs.AreaStep.Fit.{IsFitRouter}
use Rattle.ospf_router.proofs.AreaStep.StepFit.{down_fit}
use Rattle.ospf_router.proofs.step.steps.take_down.Goals as goal

pub returns-clause-fit : goal.returns-clause-fit
returns-clause-fit c = subst (λ (s : AreaValue). IsFitRouter s) (sym c.take_down.ensures) (down_fit c.args.link c.args.area.now c.requires)
