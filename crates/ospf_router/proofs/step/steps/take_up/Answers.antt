use Rattle.std.proofs.Common.{sym, subst}
use Rattle.std.proofs.lemmas.Result.{on_ok_weaker}
use Rattle.ospf_area.specs.State.{AreaValue}
use Rattle.ospf_router.specs.AreaStep.Fit.{IsFitRouter}
use Rattle.ospf_router.proofs.AreaStep.StepFit.{up_fit}
use Rattle.ospf_router.proofs.step.steps.take_up.Goals as goal

pub returns-clause-fit : goal.returns-clause-fit
returns-clause-fit c = on_ok_weaker c.take_up.result (λ e. subst (λ (s : AreaValue). IsFitRouter s) (sym e) (up_fit c.args.link c.args.area.now c.requires)) c.take_up.ensures.after
