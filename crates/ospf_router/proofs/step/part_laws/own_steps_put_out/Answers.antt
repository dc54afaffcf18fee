use Rattle.ospf_router.proofs.AreaStep.PutParts.{own_none, own_more, own_end}
use Rattle.ospf_router.proofs.step.part_laws.own_steps_put_out.Goals as goal

pub returns : goal.returns
returns c = record { none = own_none; more = own_more; end = own_end }
