use Rattle.ospf_router.proofs.AreaStep.LinkParts.{one_quiet, one_goes}
use Rattle.ospf_router.proofs.step.each_link_laws.one_link_goes.Goals as goal

pub returns : goal.returns
returns c = record { quiet = one_quiet; goes = one_goes }
