use Rattle.ospf_router.proofs.StepLaws.Started.{started_kept}
use Rattle.ospf_router.proofs.laws.started_routers_are_kept.Goals as goal

pub returns : goal.returns
returns c = started_kept c.starts_sound.ensures
