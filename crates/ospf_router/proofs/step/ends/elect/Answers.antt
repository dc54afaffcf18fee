use Rattle.std.proofs.lemmas.Result.{on_ok_weaker}
use Rattle.ospf_router.proofs.AreaStep.LinkFit.{fit_ready}
use Rattle.ospf_router.proofs.AreaStep.StepFit.{elects_fit}
use Rattle.ospf_router.proofs.step.ends.elect.Goals as goal

pub elect-requires : goal.elect-requires
elect-requires c = fit_ready c.args.area.now.router c.args.area.now.links c.requires.links

pub returns-clause-fit : goal.returns-clause-fit
returns-clause-fit c =
    on_ok_weaker c.elect.result (λ e. elects_fit c.neighbours_stay_of_link.ensures c.args.area.now c.args.out.now c.elect.new.area c.elect.new.out e c.requires) c.elect.ensures
