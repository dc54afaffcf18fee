use Rattle.ospf_drive.proofs.Stopping.{may_stop}
use Rattle.ospf_router.specs.Steps.{happening}
use Rattle.ospf_drive.proofs.machine.RouterMachine.step.Goals as goal

pub returns-clause-may_stop : goal.returns-clause-may_stop
returns-clause-may_stop c = may_stop c.step.result (happening c.args.event) c.args.self.now c.step.ensures.memory
