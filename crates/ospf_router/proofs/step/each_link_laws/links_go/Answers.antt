use Rattle.ospf_router.proofs.AreaStep.LinkParts.{part_quiet, part_goes}
use Rattle.ospf_router.proofs.step.each_link_laws.links_go.Goals as goal

pub returns : goal.returns
returns c = record { quiet = part_quiet; goes = part_goes }
