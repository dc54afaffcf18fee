use Rattle.std.proofs.lemmas.Result.{on_ok_weaker}
use Rattle.ospf_router.proofs.AreaStep.StepFit.{removes_fit}
use Rattle.ospf_router.proofs.step.ends.remove.Goals as goal

pub returns-clause-fit : goal.returns-clause-fit
returns-clause-fit c =
    on_ok_weaker c.remove.result (λ e. removes_fit c.area_stays_sound.ensures c.args.area.now c.args.out.now c.remove.new.out c.remove.new.area c.database_is_one.ensures e c.requires) c.remove.ensures
