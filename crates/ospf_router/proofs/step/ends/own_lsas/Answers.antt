use Rattle.std.proofs.lemmas.Result.{on_ok_weaker}
use Rattle.ospf_router.proofs.AreaStep.StepFit.{own_fit}
use Rattle.ospf_router.proofs.step.ends.own_lsas.Goals as goal

pub returns-clause-fit : goal.returns-clause-fit
returns-clause-fit c =
    on_ok_weaker c.own_lsas.result (λ e. own_fit c.own_stay_sound.ensures c.args.area.now c.args.out.now c.own_lsas.new.out c.own_lsas.new.area e c.requires) c.own_lsas.ensures.own
